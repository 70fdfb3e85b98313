use Rattle.std.proofs.Common.{sym, ◌∙◌, arith}
use Rattle.terms.proofs.Putting.{put_size_closed, put_size_fits}
use Rattle.terms.proofs.Terms.+size_after.Goals as goal

pub returns-then-indices-depth : goal.returns-then-indices-depth
returns-then-indices-depth t c = c.size.ensures.exact ∙ sym (put_size_closed _ _ _ (omega (arith, c.indices.ensures, c.if-indices-depth.true)))

pub overflow_add-result : goal.overflow_add-result
overflow_add-result t c =
    let fits = put_size_fits c.args.depth _ _ _ c.in-Unary.ensures.means (c.args.self.now.sound.small _ c.requires.within) c.requires.small in
    omega (arith, fits, rw c.under.ensures at c.size_after.ensures)

pub overflow_add-result-in-Binary : goal.overflow_add-result-in-Binary
overflow_add-result-in-Binary t c =
    let fits = put_size_fits c.args.depth _ _ _ c.in-Binary.ensures.means (c.args.self.now.sound.small _ c.requires.within) c.requires.small in
    omega (arith, fits, c.size_after-in-Binary.ensures, c.size_after-in-Binary-2.ensures)

pub overflow_add-result-in-Binary-2 : goal.overflow_add-result-in-Binary-2
overflow_add-result-in-Binary-2 t c =
    let fits = put_size_fits c.args.depth _ _ _ c.in-Binary.ensures.means (c.args.self.now.sound.small _ c.requires.within) c.requires.small in
    omega (arith, fits, c.size_after-in-Binary.ensures, c.size_after-in-Binary-2.ensures)
