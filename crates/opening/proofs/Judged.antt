-- All data symbols judged with nothing stored, and then stored.
use mathlib.Core.Path.{◌≡◌, refl, sym, ap, ◌∙◌, subst}
use mathlib.Core.Logic.{◌⊎◌, inl, inr}
use mathlib.Core.Bool.{Bool, true, false}
use mathlib.Core.List.{List}
use Prim.Native.Nat.{ℕ, ◌+◌, ◌*◌, ◌<◌}
use native.Mathlib.Omega.{arith}
use lib.ListN.{length, get_or, take}
use lib.Seq.{ext_get_or, get_or-take}
use Rattle.lists.specs.Lists.{element}
use Rattle.shape.specs.declared.Shape.{Shape}
use Rattle.std.specs.Prelude.{Ok, Err}
use Rattle.shape.specs.Refusals.{Answer}
use Rattle.shape.specs.declared.Refusal.TheVariants.{NoTranscript}
use Rattle.shape.specs.Shape.{size}
use Rattle.shape.proofs.Answers.{afterwards_done, afterwards_refused}
use Rattle.code.specs.Code.{narrow}
use Rattle.code.specs.Archive.{data_of}
use Rattle.code.specs.Refusals.{open_input_refusal, data_refusal, open_refusal}
use Rattle.code.specs.Steps.{data_fits}
use Rattle.code.specs.Promises.{Opens}
use Rattle.rows.specs.Rows.{Stored}
use Rattle.code.proofs.Accepted.{Openable, open_accepted}
use Rattle.code.proofs.Promised.{opens_refused, opens_done}
use Rattle.code.proofs.Opening.{fit_all, fit_not_all, opened_end}
use Rattle.opening.specs.Steps.{Readable, opened, Walked, AllData, AllListed, OpenedAll}
use Rattle.opening.proofs.Places.{opened_data, whole_data}

pub readable : (s : Shape) (list symbols : List ℕ) (len room : ℕ) → open_input_refusal narrow s list symbols len room 0 ≡ 0 → Readable s list symbols
readable s list symbols len room e =
    let w = open_accepted s list symbols len room e in
    record { shape = w.shape; up = w.given.nodes; count = w.given.count; long = w.long; small = w.given.small }

-- with no room nothing is stored
pub judged_only : (D : ℕ → ℕ) (len : ℕ) (All : ℕ → Type 0) (before after : List ℕ) (fit : Bool) → Walked D len 0 All before after fit → after ≡ before
judged_only D len All before after fit w = ext_get_or 0 after before w.long (λ e h. go e (w.others e))
  where
    go : (e : ℕ) → (get_or after e 0 ≡ get_or before e 0) ⊎ ((e < 0) × (get_or after e 0 ≡ D e)) → get_or after e 0 ≡ get_or before e 0
    go e (inl d) = d
    go e (inr d) = absurd (omega (arith, d.0))

module _ (s : Shape) (list symbols before : List ℕ) (input : open_input_refusal narrow s list symbols (length before) (length before) 0 ≡ 0) where
  abbrev len : ℕ
  len = length before

  able : Openable s list symbols len len
  able = open_accepted s list symbols len len input

  -- all data symbols may stand where they do
  abbrev AllFit : Type 0
  AllFit = (e : ℕ) → e < s.k * size s → data_fits len e (get_or (data_of narrow s list symbols) e 0) ≡ true

  turned : (after : List ℕ) → (AllFit → ⊥) → after ≡ before → OpenedAll s list symbols before after (Err NoTranscript)
  turned after off e =
      let seven = fit_not_all s list symbols len len able off in
      record { long = ap length e; number = sym seven; bytes = e ∙ sym (afterwards_refused before _ NoTranscript _ (sym seven)) }

  done : (after : List ℕ) → AllFit → length after ≡ length before → ((e : ℕ) → e < length before → get_or after e 0 ≡ get_or (data_of narrow s list symbols) e 0)
      → OpenedAll s list symbols before after (Ok tt)
  done after all long there =
      let none = fit_all s list symbols len len able all in
      record { long = long; number = sym none; bytes = opened_end s list symbols len len able after long there ∙ sym (afterwards_done before _ _ none) }

  -- ---- walked

  same : (e : ℕ) → e < s.k * size s → opened s list symbols e ≡ get_or (data_of narrow s list symbols) e 0
  same = opened_data s list symbols (readable s list symbols len len input)

  pub turned_back : (after : List ℕ) (fit : Bool) → fit ≡ false → Walked (opened s list symbols) (length before) 0 (AllData s) before after fit
      → OpenedAll s list symbols before after (Err NoTranscript)
  turned_back after fit off w = turned after (λ all. w.misfit off (λ e h. rw (same e h) (all e h))) (judged_only _ _ _ _ _ _ w)

  pub judged_stored : (now after : List ℕ) (fit again : Bool) → fit ≡ true → Walked (opened s list symbols) (length before) 0 (AllData s) before now fit
      → Walked (opened s list symbols) (length before) (length before) (AllData s) now after again → OpenedAll s list symbols before after (Ok tt)
  judged_stored now after fit true on w v =
      done after (λ e h. rw (← same e h) (w.fits on e h)) (v.long ∙ w.long)
      (λ e h. let l : e < s.k * size s = omega (arith, able.fits) in v.there refl e l h ∙ same e l)
  judged_stored now after fit false on w v = absurd (v.misfit refl (w.fits on))

  -- ---- the data nodes themselves, copied

  module _ (last : AllListed list) where
    here : (e : ℕ) → e < s.k * size s → get_or (data_of narrow s list symbols) e 0 ≡ get_or symbols e 0
    here = whole_data s list symbols (readable s list symbols len len input) last

    pub copy_turned_back : (((t : ℕ) → t < length symbols → data_fits (length before) (0 + t) (get_or symbols t 0) ≡ true) → ⊥)
        → OpenedAll s list symbols before before (Err NoTranscript)
    copy_turned_back off =
        turned before
        (λ all. off (λ t h.
        let l : t < s.k * size s = omega (arith, able.long) in
        let z : 0 + t ≡ t = omega arith in rw (z, ← here t l) (all t l)))
        refl

    pub data_copied : (after : List ℕ) → ((t : ℕ) → t < length symbols → data_fits (length before) (0 + t) (get_or symbols t 0) ≡ true)
        → Stored 0 (length before) (element (take (length before) symbols)) before after → OpenedAll s list symbols before after (Ok tt)
    data_copied after fit put =
        done after (λ e h. let z : 0 + e ≡ e = omega arith in rw (here e h) (rw z at (fit e (omega (arith, able.long))))) put.long
        (λ e h.
        let z : 0 + e ≡ e = omega arith in
        rw z at (put.there e h) ∙ get_or-take len symbols e 0 h ∙ sym (here e (omega (arith, able.fits))))

-- where the input passed, that is what is promised
pub opens_by : (s : Shape) (list symbols : List ℕ) (len : ℕ) (before after : List ℕ) (answer : Answer) → open_input_refusal narrow s list symbols len (length before) 0 ≡ 0
    → OpenedAll s list symbols before after answer → Opens s list symbols len before after answer
unfolding open_refusal
opens_by s list symbols len before after (Ok tt) input w =
    let able = open_accepted s list symbols len (length before) input in
    let fine : data_refusal narrow s list symbols len ≡ 0 = rw able.whole at (sym w.number) in
    opens_done s list symbols len before after input (able.then _ ∙ fine) (rw able.whole at (w.bytes ∙ afterwards_done before _ _ (sym w.number)))
opens_by s list symbols len before after (Err cause) input w =
    let able = open_accepted s list symbols len (length before) input in
    subst (λ z. Opens s list symbols len before z (Err cause)) (sym (w.bytes ∙ afterwards_refused before _ cause _ w.number))
    (opens_refused s list symbols len before cause (rw able.whole at w.number ∙ sym (able.then _)))
