-- "The first that applies" is one: of each list of conditions at most one number is the first, and each number is one cause.
--     tried_one        two numbers that are the first are equal
--     tried_onward     where a list's conditions all hold, what follows it decides
--     tried_before     where what follows it all holds, the list decides
--     all_hold, hold_all    0 says that they all hold, where each number is above 0
--     tried_first, first_tried    a number above 0 is that of the first cause
--     tried_within     no number is above those of the list
--     cause_one        two causes with one number are equal
--     cause_some       no cause has the number 0
--     answer_one       two answers with one number are equal where what they hold is
--     planned_one      two answers with one number and one total are equal
--     number_one       two numbers that one cause is made into are equal, by the equation of the conversion
-- Assumes nothing.
use Prim.Native.Nat.{ℕ, ◌-◌, ◌≤◌, ◌<◌}
use mathlib.Core.Path.{◌≡◌, refl, sym, ap, ◌∙◌, subst}
use mathlib.Core.Logic.{inl, inr}
use mathlib.Core.List.{List, [], ◌∷◌, ◌++◌}
use native.Mathlib.Omega.{arith}
use lib.Dec.{lit<}
use lib.ListN.{get_or}
use Rattle.std.specs.Prelude.{Result, Ok, Err}
use Rattle.units.specs.declared.Picowatts.{Picowatts}
use Rattle.model.specs.declared.Refusal.{Refusal}
use Rattle.model.specs.declared.Refusal.TheVariants.{Sizes, Levels, Ranges, Slopes, IslandPower, Count, Order, Speed, Buffers}
use Rattle.model.specs.Answer.{total_of}
use Rattle.model.specs.Refusals.{Condition, Tried, AllHold, FirstCause, cause_number, number_of}

pub tried_one : (cs : List Condition) (m n : ℕ) → Tried cs m → Tried cs n → m ≡ n
tried_one [] m n p q = p ∙ sym q
tried_one (c ∷ cs) m n (inl p) (inl q) = p.1 ∙ sym q.1
tried_one (c ∷ cs) m n (inl p) (inr q) = absurd (p.0 q.0)
tried_one (c ∷ cs) m n (inr p) (inl q) = absurd (q.0 p.0)
tried_one (c ∷ cs) m n (inr p) (inr q) = tried_one cs m n p.1 q.1

-- each has a number above 0, so that 0 is left where none is refused
abbrev pub Numbers : List Condition → Type 0
Numbers [] = Unit {0}
Numbers (c ∷ cs) = (0 < c.number) × Numbers cs

pub all_hold : (cs : List Condition) → Numbers cs → Tried cs 0 → AllHold cs
all_hold [] some none = tt
all_hold (c ∷ cs) some (inl refused) = absurd (omega (arith, some.0, refused.1))
all_hold (c ∷ cs) some (inr passed) = (passed.0, all_hold cs some.1 passed.1)

pub tried_onward : (cs ds : List Condition) (n : ℕ) → AllHold cs → Tried ds n → Tried (cs ++ ds) n
tried_onward [] ds n held tried = tried
tried_onward (c ∷ cs) ds n held tried = inr (held.0, tried_onward cs ds n held.1 tried)

pub hold_all : (cs : List Condition) → AllHold cs → Tried cs 0
hold_all [] held = refl
hold_all (c ∷ cs) held = inr (held.0, hold_all cs held.1)

pub tried_before : (cs ds : List Condition) (n : ℕ) → AllHold ds → Tried cs n → Tried (cs ++ ds) n
tried_before [] ds n held none = subst (λ (k : ℕ). Tried ds k) (sym none) (hold_all ds held)
tried_before (c ∷ cs) ds n held (inl refused) = inl refused
tried_before (c ∷ cs) ds n held (inr passed) = inr (passed.0, tried_before cs ds n held passed.1)

pub tried_first : (cs : List Condition) (n : ℕ) → 0 < n → Tried cs n → FirstCause cs n
tried_first [] n some none = absurd (omega arith)
tried_first (c ∷ cs) n some (inl refused) =
    record {
      before = [];
      cause = c;
      after = cs;
      in_order = refl;
      all_before = tt;
      applies = refused.0;
      its_number = refused.1;
    }
tried_first (c ∷ cs) n some (inr passed) =
    let rest : FirstCause cs n = tried_first cs n some passed.1 in
    record {
      before = c ∷ rest.before;
      cause = rest.cause;
      after = rest.after;
      in_order = ap (λ (ds : List Condition). c ∷ ds) rest.in_order;
      all_before = (passed.0, rest.all_before);
      applies = rest.applies;
      its_number = rest.its_number;
    }

pub first_tried : (cs : List Condition) (n : ℕ) → FirstCause cs n → Tried cs n
first_tried cs n first =
    subst (λ (ds : List Condition). Tried ds n) (sym first.in_order)
    (tried_onward first.before (first.cause ∷ first.after) n first.all_before (inl (first.applies, first.its_number)))

-- no number of the list is above a bound
abbrev pub NumbersWithin : ℕ → List Condition → Type 0
NumbersWithin most [] = Unit {0}
NumbersWithin most (c ∷ cs) = (c.number ≤ most) × NumbersWithin most cs

pub tried_within : (most : ℕ) (cs : List Condition) (n : ℕ) → NumbersWithin most cs → Tried cs n → n ≤ most
tried_within most [] n within none = omega arith
tried_within most (c ∷ cs) n within (inl refused) = omega (arith, within.0, refused.1)
tried_within most (c ∷ cs) n within (inr passed) = tried_within most cs n within.1 passed.1

-- the causes in order, so that a number finds its cause again
causes_in_order : List Refusal
causes_in_order = Sizes ∷ Levels ∷ Ranges ∷ Slopes ∷ IslandPower ∷ Count ∷ Order ∷ Speed ∷ Buffers ∷ []

found : (c : Refusal) → get_or causes_in_order (cause_number c - 1) Sizes ≡ c
unfolding causes_in_order
found Sizes = refl
found Levels = refl
found Ranges = refl
found Slopes = refl
found IslandPower = refl
found Count = refl
found Order = refl
found Speed = refl
found Buffers = refl

pub cause_some : (c : Refusal) → 0 < cause_number c
cause_some Sizes = lit< tt
cause_some Levels = lit< tt
cause_some Ranges = lit< tt
cause_some Slopes = lit< tt
cause_some IslandPower = lit< tt
cause_some Count = lit< tt
cause_some Order = lit< tt
cause_some Speed = lit< tt
cause_some Buffers = lit< tt

pub cause_one : (c d : Refusal) → cause_number c ≡ cause_number d → c ≡ d
cause_one c d same = sym (found c) ∙ ap (λ (n : ℕ). get_or causes_in_order (n - 1) Sizes) same ∙ found d

module _ {A : Type 0} where
  -- the number tells an answer that holds something from every refusal, and a refusal from every other
  pub answer_one :
      (r s : Result A Refusal)
      → number_of r ≡ number_of s
      → ((a b : A) → r ≡ Ok a → s ≡ Ok b → a ≡ b)
      → r ≡ s
  answer_one (Ok a) (Ok b) number held = ap Ok (held a b refl refl)
  answer_one (Ok a) (Err d) number held = absurd (omega (arith, cause_some d))
  answer_one (Err c) (Ok b) number held = absurd (omega (arith, cause_some c))
  answer_one (Err c) (Err d) number held = ap Err (cause_one c d number)

-- "a definition gives this paper's number and values for every one of its cases": these tell an answer from every other
pub planned_one : (r s : Result Picowatts Refusal) → number_of r ≡ number_of s → total_of r ≡ total_of s → r ≡ s
planned_one r s number totals =
    answer_one r s number
    (λ a b one other. ap (λ (n : ℕ). record { 0 = n }) (sym (ap total_of one) ∙ totals ∙ ap total_of other))

pub number_one : (cause : Refusal) (r s : ℕ) → r ≡ cause_number cause → s ≡ cause_number cause → r ≡ s
number_one cause r s p q = p ∙ sym q
