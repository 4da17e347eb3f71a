-- Crossing islands. Assumes nothing.
use Rattle.std.specs.Prelude.{ℕ, ◌<◌, ◌≡◌, ◌≢◌, List, length, get_or}

-- "Two islands cross if positions a < b < c < d exist with a and c on one of them, b and d on the other."
pub record Cross (x y : ℕ) (plan : List ℕ) : Type 0 where
  pub a : ℕ
  pub b : ℕ
  pub c : ℕ
  pub d : ℕ
  pub a_b : a < b
  pub b_c : b < c
  pub c_d : c < d
  pub within : d < length plan
  pub a_one : get_or plan a 0 ≡ x
  pub b_other : get_or plan b 0 ≡ y
  pub c_one : get_or plan c 0 ≡ x
  pub d_other : get_or plan d 0 ≡ y

-- "The returned plan has no crossing islands."
abbrev pub NoCrossing : List ℕ → Type 0
NoCrossing plan = (x y : ℕ) → x ≢ y → ¬ (Cross x y plan)
