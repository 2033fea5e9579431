-- The wanted bytes judged with nothing stored, and then stored; what the call gives, and that other columns have no part in it.
use mathlib.Core.Path.{◌≡◌, refl, sym, ap, ◌∙◌}
use mathlib.Core.Logic.{◌⊎◌, inl, inr}
use mathlib.Core.Bool.{Bool, true, false, not, true≢false, false≢true}
use mathlib.Core.List.{List}
use Prim.Native.Nat.{ℕ, ◌*◌, ◌/◌, ◌%◌, ◌<◌}
use native.Mathlib.Omega.{arith}
use lib.ListN.{length, get_or}
use lib.Seq.{ext_get_or}
use Rattle.lists.proofs.Places.{place_of}
use Rattle.lists.proofs.Tests.{true_or_false}
use Rattle.shape.specs.declared.Shape.{Shape}
use Rattle.shape.specs.Shape.{size, byte_values}
use Rattle.shape.proofs.Accepted.{symbols_accepted, symbols_low}
use Rattle.code.specs.Code.{narrow}
use Rattle.code.specs.Archive.{data_of}
use Rattle.code.specs.Steps.{data_fits}
use Rattle.code.proofs.Opening.{byte_fits, fits_byte}
use Rattle.opening.specs.Steps.{opened, Walked}
use Rattle.opening.proofs.Judged.{judged_only}
use Rattle.stretches.specs.Stretches.{bytes_wanted, joined}
use Rattle.stretches.specs.Refusals.{wanted_bad}
use Rattle.stretches.specs.Steps.{Wanted, byte_at, AllOut, Legible, OpenedWanted}
use Rattle.stretches.proofs.Wanted.{out_wanted, joined_length, joined_at, wanted_touches}
use Rattle.stretches.proofs.Judging.{wanted_bounded}
use Rattle.stretches.proofs.Alone.{opened_is}

module _ (s : Shape) (list symbols st : List ℕ) (w : Legible s list symbols st) where
  abbrev bytes : List ℕ
  bytes = joined st (data_of narrow s list symbols)

  abbrev D : ℕ → ℕ
  D e = opened s list symbols (byte_at st e)

  -- what is worked out for a wanted byte is its data symbol
  opened_wanted : (b : ℕ) → Wanted st b → opened s list symbols b ≡ get_or (data_of narrow s list symbols) b 0
  opened_wanted b v =
      let p = place_of s.k (size s) b (wanted_bounded st (s.k * size s) w.bounded b v) in
      rw (← p.whole) (opened_is s list symbols w.shape w.up w.count (b % size s) p.place (λ j h. w.small j (b % size s) h p.place (wanted_touches st s b v)) (b / size s) p.row)

  comes : (e : ℕ) → e < bytes_wanted st → D e ≡ get_or bytes e 0
  comes e h = opened_wanted (byte_at st e) (out_wanted st e h) ∙ sym (joined_at st (data_of narrow s list symbols) e h)

  module _ (before : List ℕ) (room : length before ≡ bytes_wanted st) where
    -- all are bytes, or one is not
    fits : ((e : ℕ) → AllOut st e → data_fits (length before) e (D e) ≡ true) → wanted_bad narrow s list symbols st ≡ false
    unfolding wanted_bad
    fits all = symbols_low byte_values bytes (λ e h.
        let l : e < bytes_wanted st = rw (joined_length st (data_of narrow s list symbols)) at h in
        rw (← comes e l) (fits_byte (length before) e (D e) (omega (arith, room)) (all e l)))

    fit : wanted_bad narrow s list symbols st ≡ false → (e : ℕ) → AllOut st e → data_fits (length before) e (D e) ≡ true
    unfolding wanted_bad
    fit none e l =
        byte_fits (length before) e (D e) (omega (arith, room))
        (rw (comes e l) (symbols_accepted byte_values bytes none e (rw (joined_length st (data_of narrow s list symbols)) l)))

    pub wanted_turned : (after : List ℕ) (good : Bool) → good ≡ false → Walked D (length before) 0 (AllOut st) before after good → OpenedWanted s list symbols st before after false
    wanted_turned after good z v = record {
      long = v.long;
      judged = ap not (sym (go (true_or_false (wanted_bad narrow s list symbols st))));
      stored = λ y. absurd (false≢true y);
      kept = λ _. judged_only _ _ _ _ _ _ v;
    }
      where
        go : (wanted_bad narrow s list symbols st ≡ true) ⊎ (wanted_bad narrow s list symbols st ≡ false) → wanted_bad narrow s list symbols st ≡ true
        go (inl e) = e
        go (inr e) = absurd (v.misfit z (fit e))

    pub wanted_stored : (now after : List ℕ) (good again : Bool) → good ≡ true → Walked D (length before) 0 (AllOut st) before now good
        → Walked D (length before) (length before) (AllOut st) now after again → OpenedWanted s list symbols st before after true
    wanted_stored now after good true z v u = record {
      long = u.long ∙ v.long;
      judged = ap not (sym (fits (v.fits z)));
      stored = λ _. ext_get_or 0 after bytes (u.long ∙ v.long ∙ room ∙ sym (joined_length st (data_of narrow s list symbols))) (λ e h.
          let l : e < bytes_wanted st = omega (arith, u.long, v.long, room) in
          u.there refl e l (omega (arith, room)) ∙ comes e l);
      kept = λ y. absurd (true≢false y);
    }
    wanted_stored now after good false z v u = absurd (u.misfit refl (v.fits z))
