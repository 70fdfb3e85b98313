-- φ[t]: index 0 of φ replaced by the thing t, higher indices lowered by one, no variable of t captured.
use Rattle.std.specs.Prelude.{ℕ, suc, pred, cond, ◌==◌, nat_lt}
use Rattle.logic.specs.Syntax.{Thing, Things, Number, Formula, var, apply, nil, cons, lit, add, minus, measure, falsity, connect, neg, eq_things, relate, atom, forall}

-- a thing under one more binder: a thing binds no variable, so each index is one more
abbrev mutual
  pub raise : Thing → Thing
  raise (var i) = var (suc i)
  raise (apply s l) = apply s (raise_each l)

  pub raise_each : Things → Things
  raise_each nil = nil
  raise_each (cons t l) = cons (raise t) (raise_each l)

-- the variable i, where index k is replaced by t
abbrev pub put_var : ℕ → Thing → ℕ → Thing
put_var k t i = cond (nat_lt i k) (var i) (cond (i == k) t (var (pred i)))

abbrev mutual
  pub put_thing : ℕ → Thing → Thing → Thing
  put_thing k t (var i) = put_var k t i
  put_thing k t (apply s l) = apply s (put_things k t l)

  pub put_things : ℕ → Thing → Things → Things
  put_things k t nil = nil
  put_things k t (cons u l) = cons (put_thing k t u) (put_things k t l)

abbrev pub put_number : ℕ → Thing → Number → Number
put_number k t (lit n) = lit n
put_number k t (add a b) = add (put_number k t a) (put_number k t b)
put_number k t (minus a) = minus (put_number k t a)
put_number k t (measure s l) = measure s (put_things k t l)

abbrev pub put : ℕ → Thing → Formula → Formula
put k t falsity = falsity
put k t (connect c φ ψ) = connect c (put k t φ) (put k t ψ)
put k t (neg φ) = neg (put k t φ)
put k t (eq_things u v) = eq_things (put_thing k t u) (put_thing k t v)
put k t (relate r a b) = relate r (put_number k t a) (put_number k t b)
put k t (atom s l) = atom s (put_things k t l)
put k t (forall φ) = forall (put (suc k) (raise t) φ)

-- φ[t]
abbrev pub instance_of : Formula → Thing → Formula
instance_of φ t = put 0 t φ
