-- A field is right-justified in one way.
use Rattle.std.specs.Prelude.{◌≡◌, ℕ, zero, suc, ◌+◌, ◌-◌, Bool, true, false, cond, List, [], ◌∷◌, ◌++◌, length, drop, replicate, Some, None, Option, ◌==◌, refl}
use Rattle.std.proofs.lemmas.List.Sums.{prefix_len-le-length}
use Rattle.std.proofs.Common.{sym, ap, ◌∙◌, arith}
use Rattle.std.proofs.lemmas.List.{length-replicate, length-drop, drop_at}
use Rattle.std.proofs.lemmas.Bool.{cond-false, eqb-true, ne_eqb}
use Rattle.command.specs.Columns.{blanks, Stands}
use Rattle.command.specs.Reads.{Reads}
use Rattle.command.specs.Fields.{Unblank}
use Rattle.command.specs.Written.{justified}

-- the blanks and the rest are all of it
blanks_and_rest : (s : List ℕ) → replicate (blanks s) 32 ++ drop (blanks s) s ≡ s
blanks_and_rest [] = refl
blanks_and_rest (b ∷ bs) = step (b == 32) (eqb-true b 32) (blanks_and_rest bs)
  where
    step : (v : Bool) → (v ≡ true → b ≡ 32) → replicate (blanks bs) 32 ++ drop (blanks bs) bs ≡ bs → replicate (cond v (1 + blanks bs) 0) 32 ++ drop (cond v (1 + blanks bs) 0) (b ∷ bs) ≡ b ∷ bs
    step true e rest =
        let more : 1 + blanks bs ≡ suc (blanks bs) = omega arith in
        rw (more, rest, e refl)
    step false e rest = refl

blanks_replicate : (k : ℕ) (s : List ℕ) → Unblank s → blanks (replicate k 32 ++ s) ≡ k
blanks_replicate zero [] h = refl
blanks_replicate zero (b ∷ bs) h = cond-false (b == 32) (1 + blanks bs) 0 (ne_eqb b 32 h.0)
blanks_replicate (suc k) s h = let e = blanks_replicate k s h in omega arith

-- a number that is justified in the field is what stands after the blanks
pub after_blanks : (f s : List ℕ) → Unblank s → justified (length f) s ≡ f → s ≡ drop (blanks f) f
after_blanks f s h e =
    let k = length f - length s in
    let n : blanks f ≡ k = ap blanks (sym e) ∙ blanks_replicate k s h in
    sym (drop_at (replicate k 32) s k (length-replicate k 32)) ∙ ap (drop k) e ∙ ap (λ (j : ℕ). drop j f) (sym n)

pub is_justified : (f s : List ℕ) → s ≡ drop (blanks f) f → justified (length f) s ≡ f
is_justified f s e =
    let n : length f - length s ≡ blanks f =
    (let w = prefix_len-le-length (λ b. b == 32) f in
    let l : length s ≡ length f - blanks f = ap length e ∙ length-drop (blanks f) f in
    omega arith)
    in
    rw (n, e) (blanks_and_rest f)

-- what reads the number after the blanks reads the field
pub reads_field :
    {X : Type 0} (write : X → List ℕ) (Fine : X → Type 0) (unblank : (x : X) → Fine x → Unblank (write x)) (field : List ℕ)
    → (r : Option X) → Reads (λ x. Fine x × (write x ≡ drop (blanks field) field)) r → Reads (λ x. Fine x × Stands (write x) field) r
reads_field write Fine unblank field None none = λ x p. none x (p.0, after_blanks field (write x) (unblank x p.0) p.1)
reads_field write Fine unblank field (Some x) (fine, e) = (fine, is_justified field (write x) e)
