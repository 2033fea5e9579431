-- What an answer of the check tells that is sound at the end of a search, or that is the first of two.
use mathlib.Core.Path.{◌≡◌, refl, sym, ◌∙◌}
use mathlib.Core.Logic.{◌≢◌, ◌↔◌, ◌⊎◌, inl, inr}
use mathlib.Core.Bool.{cond}
use Prim.Native.Nat.{ℕ}
use native.Mathlib.Decide.{ℕ_discrete}
use native.Mathlib.Omega.{arith}
use lib.Dec.{eqb}
use Rattle.lists.proofs.Tests.{cond_equal, cond_unequal}
use Rattle.std.specs.Prelude.{Option, Some, None}
use Rattle.std.specs.Option.{option_or}
use Rattle.checking.specs.declared.Fault.{Fault}

pub fault_found : (fault : Fault) → ◌≡◌ {A = Option Fault} (Some fault) None → ⊥
fault_found fault e = let z : ◌≡◌ {A = ℕ} 0 1 = cc in omega arith

-- a search found e, and where that is the end, all is sound
module _ (x : Option Fault) (e end : ℕ) where
  -- another answer tells that it is not the end
  pub before_end : (y : Option Fault) → y ≢ None → cond (eqb e end) None x ≡ y → (e ≢ end) × (x ≡ y)
  before_end y d z = go (ℕ_discrete e end)
    where
      go : Dec (e ≡ end) → (e ≢ end) × (x ≡ y)
      go (yes w) = absurd (d (sym z ∙ cond_equal _ _ e end w))
      go (no w) = (w, sym (cond_unequal _ _ e end w) ∙ z)

  pub sound_at_end : x ≢ None → (cond (eqb e end) None x ≡ None) ↔ (e ≡ end)
  sound_at_end d = (λ z. go z (ℕ_discrete e end), λ w. cond_equal _ _ e end w)
    where
      go : cond (eqb e end) None x ≡ None → Dec (e ≡ end) → e ≡ end
      go z (yes w) = w
      go z (no w) = absurd (d (sym (cond_unequal _ _ e end w) ∙ z))

-- the answer is the first one's, or that one is sound and it is the later one's
pub or_either : (x y z : Option Fault) → option_or x y ≡ z → (x ≡ z) ⊎ ((x ≡ None) × (y ≡ z))
or_either None y z e = inr (refl, e)
or_either (Some fault) y z e = inl e

pub or_sound : (x y : Option Fault) → x ≡ None → option_or x y ≡ y
or_sound x y e = rw e

-- sound exactly if both are
pub or_sound_iff : (x y : Option Fault) → (option_or x y ≡ None) ↔ ((x ≡ None) × (y ≡ None))
or_sound_iff x y = (λ e. go e (or_either x y None e), λ w. or_sound x y w.0 ∙ w.1)
  where
    go : option_or x y ≡ None → (x ≡ None) ⊎ ((x ≡ None) × (y ≡ None)) → (x ≡ None) × (y ≡ None)
    go e (inl w) = (w, sym (or_sound x y w) ∙ e)
    go e (inr w) = w
