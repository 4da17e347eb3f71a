-- The shape of the plans that Theorem 2 of source document 004 describes, over island numbers alone.
--     Run     a run of v islands: empty, or a top island whose members have runs in the gaps below them
--     Gaps    the lowest r + 1 members of the top island x, with m islands in the gaps below them
-- The islands of a run are base + 1 to base + v; its top island has the highest number. Assumes nothing.
use Rattle.std.specs.Prelude.{ℕ, suc, ◌+◌, ◌≡◌, List, [], ◌∷◌, ◌++◌}

module _ (Q : ℕ) where
  mutual
    pub data Run : ℕ → ℕ → List ℕ → Type 0 where
      empty : {base v : ℕ} {plan : List ℕ} → v ≡ 0 → plan ≡ [] → Run base v plan
      top : {base v : ℕ} {plan : List ℕ} (r m : ℕ) → suc r ≡ Q → v ≡ suc m → Gaps (base + v) base r m plan → Run base v plan

    pub data Gaps : ℕ → ℕ → ℕ → ℕ → List ℕ → Type 0 where
      lowest :
          {x base r m : ℕ} {plan : List ℕ} (gap : List ℕ)
          → r ≡ 0
          → Run base m gap
          → plan ≡ gap ++ (x ∷ [])
          → Gaps x base r m plan
      member :
          {x base r m : ℕ} {plan : List ℕ} (s l g : ℕ) (low gap : List ℕ)
          → r ≡ suc s
          → m ≡ l + g
          → Gaps x base s l low
          → Run (base + l) g gap
          → plan ≡ low ++ (gap ++ (x ∷ []))
          → Gaps x base r m plan
