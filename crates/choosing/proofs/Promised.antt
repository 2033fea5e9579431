-- What the choice promises: from the number and the layers returned, the request's claims.
use mathlib.Core.Path.{◌≡◌, refl, sym, ap, ◌∙◌}
use mathlib.Core.Bool.{Bool, true, false, not, true≢false}
use mathlib.Core.List.{List, [], ◌∷◌}
use Prim.Native.Nat.{ℕ, ◌+◌, ◌-◌, ◌/◌, ◌%◌, ◌≤◌, ◌<◌}
use native.Mathlib.Nat.{div-mul_cancel, dvd_of_mod-eq-zero, mul-mod_left}
use native.Mathlib.Omega.{arith}
use borrow.Author.Tests.{ltb-true, ltb-false, lt-ltb, le-ltb, eqb-true, eq-eqb}
use lib.ListN.{get_or}
use Rattle.lists.specs.Lists.{all}
use Rattle.lists.proofs.Tests.{at_all}
use Rattle.lists.proofs.Members.{member_of, all_member}
use Rattle.lists.proofs.Firsts.{First, first_is}
use Rattle.shape.specs.Shape.{most_layers, within}
use Rattle.shape.specs.Batches.{odd_part}
use Rattle.shape.specs.declared.Refusal.{Refusal}
use Rattle.shape.specs.declared.Refusal.TheVariants.{BadShape, NoLayers}
use Rattle.shape.specs.Refusals.{number_of, answer_number, answer_values, afterwards, refuse, shape_bad}
use Rattle.shape.proofs.Accepted.{passed}
use Rattle.shape.proofs.Answers.{number_positive, afterwards_refused}
use Rattle.shape.proofs.Batches.{batch_parted, odd_only}
use Rattle.std.specs.Prelude.{Result, Ok, Err}
use Rattle.choosing.specs.Layers.{serves, serves_all, least_layers, counts_bad, losses_bad, no_layers, layers_refusal}
use Rattle.choosing.specs.Promises.{Serves, ServesEach, Chooses, Needed}
use Rattle.choosing.proofs.Needed.{serves_multiple}

-- ---- the test and the words

serves_says : (m h : ℕ) → serves m h ≡ true → Serves m h
serves_says m h e =
    let o = batch_parted h in
    record {
      s = odd_part h (h + 1);
      power = o.power;
      batches = m / odd_part h (h + 1);
      parts = o.whole;
      odd = o.odd;
      multiple = sym (div-mul_cancel (odd_part h (h + 1)) (dvd_of_mod-eq-zero _ (eqb-true _ 0 (sym (serves_multiple m h) ∙ e))));
    }

pub says_serves : (m h : ℕ) → Serves m h → serves m h ≡ true
says_serves m h w =
    let only = odd_only w.power h (h + 1) w.s (omega arith) (omega arith) w.odd w.parts in
    serves_multiple m h ∙ eq-eqb _ 0 (ap (λ s. m % s) only ∙ ap (λ n. n % w.s) w.multiple ∙ mul-mod_left w.batches w.s)

module _ (losses : List ℕ) (m : ℕ) where
  all_each : serves_all losses m ≡ true → ServesEach m losses
  unfolding serves_all
  all_each e h named = serves_says m h (all_member (serves m) losses e h named)

  each_all : ServesEach m losses → serves_all losses m ≡ true
  unfolding serves_all
  each_all w = at_all (serves m) losses (λ j l. says_serves m (get_or losses j 0) (w (get_or losses j 0) (member_of losses j l)))

  -- what does not pass does not serve each value
  fails_each : serves_all losses m ≡ false → ServesEach m losses → ⊥
  fails_each e w = true≢false (sym (each_all w) ∙ e)

-- ---- the promise

least_first : (losses : List ℕ) → First (serves_all losses) 1 most_layers (least_layers losses)
unfolding least_layers
least_first losses = first_is (serves_all losses) 1 most_layers

module _ (n k : ℕ) (losses : List ℕ) where
  -- a call that turns back for nothing: the smallest L is at most 15
  accepted_least : layers_refusal n k losses ≡ 0 → least_layers losses ≤ most_layers
  unfolding layers_refusal no_layers
  accepted_least e =
      ltb-false most_layers _ (passed (no_layers losses) 10 0 (passed (losses_bad n k losses) 1 _ (passed (counts_bad n k) 0 _ e).1).1).0

  -- 11 is given where it is more
  eleven_over : layers_refusal n k losses ≡ 11 → most_layers < least_layers losses
  unfolding layers_refusal no_layers
  eleven_over e = ltb-true most_layers _ (go (counts_bad n k) (losses_bad n k losses) (no_layers losses) e)
    where
      go : (a b d : Bool) → refuse a 1 (refuse b 2 (refuse d 11 0)) ≡ 11 → d ≡ true
      go true b d e = absurd (omega arith)
      go false true d e = absurd (omega arith)
      go false false true e = refl
      go false false false e = absurd (omega arith)

  module _ (answer : Result ℕ Refusal) (number : answer_number answer ≡ layers_refusal n k losses)
      (returned : answer_values answer ≡ afterwards (layers_refusal n k losses) [] (least_layers losses ∷ [])) where
    chosen_least : (layers : ℕ) → answer ≡ Ok layers → (layers ≡ least_layers losses) × (least_layers losses ≤ most_layers)
    unfolding afterwards
    chosen_least layers e =
        let z = sym number ∙ ap answer_number e in
        (head (sym (ap answer_values e) ∙ returned ∙ ap (λ r. afterwards r [] (least_layers losses ∷ [])) z), accepted_least z)
      where
        head : {a b : ℕ} → ◌≡◌ {A = List ℕ} (a ∷ []) (b ∷ []) → a ≡ b
        head p = ap (λ xs. get_or xs 0 0) p

    chooses : Chooses n k losses answer
    chooses = record {
      number = number;
      returned = returned;
      range = λ layers e. let c = chosen_least layers e in (rw c.0 first.from, rw c.0 c.1);
      served = λ layers e. let c = chosen_least layers e in all_each losses layers (rw c.0 (first.passes (omega (arith, c.1))));
      smallest = λ layers fewer e l m. fails_each losses fewer (first.before fewer l (rw (← (chosen_least layers e).0) m));
      none = λ e layers l m. fails_each losses layers (first.before layers l (omega (arith, eleven_over (sym number ∙ ap answer_number e))));
    }
      where
        first : First (serves_all losses) 1 most_layers (least_layers losses)
        first = least_first losses

  refused : (cause : Refusal) → number_of cause ≡ layers_refusal n k losses → Chooses n k losses (Err cause)
  refused cause e = chooses (Err cause) e (sym (afterwards_refused [] (least_layers losses ∷ []) cause (layers_refusal n k losses) e))

  -- ---- the exits, one behind the other

  pub counts_refused : shape_bad (record { n = n; k = k; layers = 1 }) ≡ true → Chooses n k losses (Err BadShape)
  unfolding layers_refusal counts_bad
  counts_refused e = refused BadShape (rw e refl)

  module _ (counts : shape_bad (record { n = n; k = k; layers = 1 }) ≡ false) where
    -- the pass over the losses turned back, which it does with 2 alone
    pub turned_for : (found : Result ℕ Refusal) (cause : Refusal) → Needed (n - k - 1) losses found → found ≡ Err cause → Chooses n k losses (Err cause)
    unfolding layers_refusal counts_bad losses_bad
    turned_for found cause N e = refused cause (go (all (within 1 (n - k - 1)) losses) refl)
      where
        two : number_of cause ≡ refuse (not (all (within 1 (n - k - 1)) losses)) 2 0
        two = sym (ap answer_number e) ∙ N.number

        go : (b : Bool) → all (within 1 (n - k - 1)) losses ≡ b → number_of cause ≡ layers_refusal n k losses
        go true t = absurd (omega (arith, number_positive cause, two ∙ ap (λ x. refuse (not x) 2 0) t))
        go false t = two ∙ ap (λ x. refuse (not x) 2 0) t ∙ rw (counts, t) refl

    module _ (judged : all (within 1 (n - k - 1)) losses ≡ true) where
      pub none_refused : most_layers < least_layers losses → Chooses n k losses (Err NoLayers)
      unfolding layers_refusal counts_bad losses_bad no_layers
      none_refused l = refused NoLayers (rw (counts, judged, lt-ltb _ _ l) refl)

      pub chosen : (layers : ℕ) → least_layers losses ≡ layers → layers ≤ most_layers → Chooses n k losses (Ok layers)
      unfolding layers_refusal counts_bad losses_bad no_layers afterwards
      chosen layers e l = chooses (Ok layers) (sym none) (rw (none, e) refl)
        where
          none : layers_refusal n k losses ≡ 0
          none = rw (counts, judged, le-ltb most_layers (least_layers losses) (rw e l)) refl
