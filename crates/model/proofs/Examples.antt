-- The worked examples, computed; and the accepted one is a refutation written out that fits.
use native.Mathlib.Decide.{ℕ_discrete}
use Rattle.std.proofs.Common.{◌≡◌, refl}
use mathlib.Core.Bool.{decide, false≢true}
use Rattle.std.proofs.lemmas.Bool.{leb-true}
use Rattle.logic.specs.Integers.{int_discrete}
use Rattle.logic.specs.Arithmetics.{whole}
use Rattle.logic.specs.Rules.{◌>>=◌, when, by_known, by_and1, by_and2, by_negelim}
use Rattle.logic.specs.Plans.{if_fits, by_id}
use Rattle.logic.specs.Terms.{or_else}
use Rattle.model.specs.Limits.{limits}
use Rattle.model.specs.Written.{WrittenOut, Fits, distinct_terms, all_terms, command_count}
use Rattle.model.specs.Writer.{IsRefutation, write_out}
use Rattle.model.specs.Examples.{ExamplesComeOut, room, example, example_trees, ExampleStands}

pub that_examples_come_out : ExamplesComeOut
unfolding decide ℕ_discrete int_discrete ◌>>=◌ when if_fits or_else
that_examples_come_out = refl

example_written : WrittenOut whole example
unfolding ◌>>=◌ when or_else
example_written = record {
  query_written = ((refl, refl), ((_, refl, record { makes = refl; has_arguments = refl; admits_literal = refl; closes = refl }), ((_, refl, record { makes = refl; has_arguments = refl; admits_literal = refl; closes = refl }), ((_, refl, record { makes = refl; has_arguments = refl; admits_literal = refl; closes = refl }), ((_, refl, record { makes = refl; has_arguments = refl; admits_literal = refl; closes = refl }), tt)))));
  while_asking = (tt, (tt, (tt, (tt, (tt, tt)))));
  query_named = (refl, refl);
  query_closed = refl;
  plan_written = ((_, refl, record { makes = refl; has_arguments = refl; admits_literal = refl; closes = refl }), tt);
  plan_named = (refl, refl);
  symbols_once = refl;
  symbols_new = λ s m. absurd (false≢true m);
  plan_turns = by_id;
  proof_written = ((_, refl, record { makes = refl; has_arguments = refl; admits_literal = refl; closes = refl }), ((_, refl, record { makes = refl; has_arguments = refl; admits_literal = refl; closes = refl }), ((_, refl, record { makes = refl; has_arguments = refl; admits_literal = refl; closes = refl }), ((_, refl, record { makes = refl; has_arguments = refl; admits_literal = refl; closes = refl }), tt))));
  proof_named = (refl, refl);
  proof_closed = refl;
  refutes = by_negelim (by_and2 (by_known refl)) (by_and1 (by_known refl));
}

example_fits : Fits limits room example
unfolding decide ℕ_discrete int_discrete ◌>>=◌ when if_fits or_else
example_fits = record {
  query_small = (refl, (refl, (refl, (refl, (refl, tt)))));
  plan_small = (refl, tt);
  met_small = refl;
  proof_small = (refl, (refl, (refl, (refl, tt))));
  concluded_small = refl;
  terms_fit = leb-true (distinct_terms (all_terms example)) room.terms refl;
  symbols_fit = leb-true 1 room.symbols refl;
  commands_fit = leb-true (command_count example) room.commands refl;
}

example_refutes : IsRefutation whole example_trees
unfolding ◌>>=◌ when
example_refutes = record {
  query_proper = refl;
  query_closed = refl;
  plan_proper = refl;
  symbols_once = refl;
  symbols_new = λ s m. absurd (false≢true m);
  plan_turns = by_id;
  facts_hold = tt;
  proof_proper = refl;
  refutes = by_negelim (by_and2 (by_known refl)) (by_and1 (by_known refl));
}

example_comes_out : write_out example_trees ≡ example
unfolding decide ℕ_discrete int_discrete ◌>>=◌
example_comes_out = refl

pub that_example_stands : ExampleStands
that_example_stands = record { written_out = example_written; fits = example_fits; is_refutation = example_refutes; writes_out = example_comes_out }
