-- What a session may hold.
use Rattle.std.specs.Prelude.{ℕ, Bool, true, ◌&&◌, nat_le}
use Rattle.std.proofs.Math.Option.{Option, none, some}
use Rattle.logic.specs.Tree.{Tree, leaf, unary, binary, variable, hypothesis, size, foralls, assumptions}

pub record Limits : Type 0 where
  pub size : ℕ
  -- nested
  pub foralls : ℕ
  pub assumes : ℕ
  -- the largest index
  pub var_index : ℕ
  pub hyp_index : ℕ
  -- the arguments of a symbol
  pub arguments : ℕ
  -- records that a session may be lent
  pub terms : ℕ
  pub symbols : ℕ
  pub commands : ℕ

abbrev pub limits : Limits
limits = record {
  size = 20_000;
  foralls = 32;
  assumes = 64;
  var_index = 31;
  hyp_index = 63;
  arguments = 32;
  terms = 60_000;
  symbols = 1_000;
  commands = 100_000;
}

-- the records lent to a session: how many distinct terms, symbols and accepted commands it has space for
pub record Room : Type 0 where
  pub terms : ℕ
  pub symbols : ℕ
  pub commands : ℕ

-- the room is within the limits
abbrev pub granted : Limits → Room → Bool
granted L R = nat_le R.terms L.terms && nat_le R.symbols L.symbols && nat_le R.commands L.commands

-- the index, if there is one, is at most n
abbrev pub index_within : ℕ → Option ℕ → Bool
index_within n none = true
index_within n (some i) = nat_le i n

-- the term's own index
abbrev pub own_index_within : Limits → Tree → Bool
own_index_within L (leaf x) = index_within L.var_index (variable x) && index_within L.hyp_index (hypothesis x)
own_index_within L (unary h t) = true
own_index_within L (binary h t u) = true

abbrev pub within : Limits → Tree → Bool
within L t = nat_le (size t) L.size && nat_le (foralls t) L.foralls && nat_le (assumptions t) L.assumes && own_index_within L t
