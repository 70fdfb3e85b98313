-- Texts in which a byte does not stand.
use Rattle.std.specs.Prelude.{ℕ, List, [], ◌∷◌, ◌≢◌}

abbrev pub Without : ℕ → List ℕ → Type 0
Without c [] = Unit {0}
Without c (b ∷ bs) = (b ≢ c) × Without c bs
