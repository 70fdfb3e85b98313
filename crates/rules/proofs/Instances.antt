-- What measuring and keeping an instance at a closed thing asks of the table.
use Rattle.std.proofs.Common.{◌≡◌, ℕ, ◌<◌, ◌≤◌, true, ◌&&◌, leb, arith}
use Rattle.std.proofs.lemmas.Bool.{and_parts, leb-true}
use Rattle.logic.specs.Tree.{Tree, size, foralls, open_indices, put_size}
use Rattle.terms.specs.declared.Terms.{Terms}
use Rattle.terms.specs.Classes.{tree_class}
use Rattle.terms.specs.Meaning.{largest}
use Rattle.terms.specs.Outcome.{count, tree}
use Rattle.terms.proofs.Putting.{put_size_bound}
use Rattle.terms.proofs.Reading.{foralls_below}
use Rattle.rules.specs.Forms.{closed_thing, is_thing}

-- a closed thing has no open index and no `forall`
pub closed_thing_is : (t : Tree) → closed_thing t ≡ true → (open_indices t ≡ 0) × (foralls t ≡ 0)
closed_thing_is t e =
    let p = and_parts (is_thing (tree_class t) && leb (open_indices t) 0) (leb (foralls t) 0) e in
    let q = and_parts (is_thing (tree_class t)) (leb (open_indices t) 0) p.0 in
    (omega (arith, leb-true (open_indices t) 0 q.1), omega (arith, leb-true (foralls t) 0 p.1))

pub few_foralls : (T : Terms) → (i : ℕ) → i < count T → foralls (tree T i) < largest
few_foralls T i l = omega (arith, foralls_below (tree T i), T.sound.small i l)

pub instance_bounded : (T : Terms) → (a t : ℕ) → a < count T → t < count T → put_size 0 (size (tree T t)) (tree T a) ≤ 400_000_000
instance_bounded T a t l m = omega (arith, put_size_bound 0 (size (tree T t)) (tree T a) (T.sound.small t m), T.sound.small a l)
