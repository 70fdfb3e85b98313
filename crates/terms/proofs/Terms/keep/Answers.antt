use Rattle.std.proofs.Common.{rules, ◌≡◌, false, Some, length, refl, sym, ap, subst, arith}
use Rattle.table.specs.Contents.{kept, places}
use Rattle.terms.specs.Meaning.{Sound}
use Rattle.table.specs.Sameness.{has, first}
use Rattle.terms.specs.Nodes.{same_entry}
use Rattle.terms.proofs.Making.{sound_keep, few_more, did_place, did_full, did_refused, did_found}
use Rattle.terms.proofs.Terms.keep.Goals as goal

pub invariant_of-self : goal.invariant_of-self
invariant_of-self c =
    let T = c.args.self.now in
    let p = c.requires in
    let k = c.keep.ensures.kept in
    let more = few_more (places T.table) (kept T.table) c.args.entry in
    record { sound = subst Sound (sym k) (sound_keep _ _ _ T.sound p.earlier p.measures p.small); few = omega (arith, ap length k, more, c.len.ensures, c.if-len.false) }

pub returns-in_err-at : goal.returns-in_err-at
returns-in_err-at c =
    let T = c.args.self.now in
    let absent : has same_entry (kept T.table) c.args.entry ≡ false = search rules in
    search (rules, did_full T T c.args.entry c.requires.earlier refl refl absent (omega (arith, c.len.ensures, c.if-len.true)))

pub returns-then-len : goal.returns-then-len
returns-then-len c =
    let T = c.args.self.now in
    let at : first same_entry (kept T.table) c.args.entry ≡ Some c.in_ok-at.at = search rules in
    did_found T c.args.entry c.requires.earlier _ at

pub returns-in_err-place : goal.returns-in_err-place
returns-in_err-place c =
    let k = c.in_err-place.ensures in
    did_refused c.args.self.now _ c.args.entry c.requires.earlier _ _ c.from_residual-in_err-place.ensures.0 k.places k.answer k.kept

pub returns : goal.returns
returns c =
    let k = c.in_ok-place.ensures in
    did_place c.args.self.now _ c.args.entry c.requires.earlier c.in_ok-place.place _ c.index.ensures k.places k.answer k.kept
