use Rattle.std.proofs.Common.{◌≡◌, IfSome, sym, subst, rules}
use Rattle.arithmetic.specs.Literals.{literal_sum}
use Rattle.arithmetic.proofs.Bounds.{Bounds, sum_bounds}
use Rattle.arithmetic.proofs.tests.bound_of_sum.Goals as goal

pub returns-then-carries_sums : goal.returns-then-carries_sums
returns-then-carries_sums g c =
    let A = g.A.Arithmetic.meaning in
    let m = c.args.m in
    let n = c.args.n in
    let lawful = g.met.A.Arithmetic.lawful in
    let carries = sym c.if-carries_sums.ensures in
    let is : c.sum.result ≡ literal_sum A m n = search rules in
    subst (λ r. IfSome r (Bounds A lawful carries m n)) (sym is) (sum_bounds A lawful carries m n)
