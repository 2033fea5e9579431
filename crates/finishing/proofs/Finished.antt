-- The sums finished one by one, and all of them.
use mathlib.Core.Path.{◌≡◌, refl, sym, ap, ◌∙◌}
use mathlib.Core.Logic.{inl, inr}
use mathlib.Core.Bool.{false}
use mathlib.Core.List.{List}
use Prim.Native.Nat.{ℕ, zero, suc, ◌+◌, ◌-◌, ◌*◌, ◌/◌, ◌%◌, ◌<◌}
use native.Mathlib.Decide.{ℕ_discrete}
use native.Mathlib.Omega.{arith}
use lib.ListN.{length, get_or}
use lib.Seq.{ext_get_or}
use Rattle.lists.specs.Lists.{element, flat, member, others}
use Rattle.lists.proofs.Tables.{tabulate_length, tabulate_at}
use Rattle.lists.proofs.Members.{member_of}
use Rattle.lists.proofs.Flats.{flat_length, flat_at}
use Rattle.lists.proofs.Places.{place_of}
use Rattle.shape.specs.declared.Shape.{Shape}
use Rattle.code.specs.Code.{narrow}
use Rattle.classes.specs.declared.Layout.{Layout}
use Rattle.classes.specs.Classes.{node, spot_at, message_size}
use Rattle.classes.specs.Steps.{other_rank}
use Rattle.classes.proofs.Placing.{other_is}
use Rattle.solving.specs.Solving.{Needed}
use Rattle.solving.proofs.Entries.{needed_missing}
use Rattle.arrival.specs.Sums.{equations, finished_at, finished_pair, finished_pairs, finished_to, finished_exchanges}
use Rattle.finishing.specs.Steps.{Answered, SentAt, PairAt, Finishable, FinishedTo, Finished}
use Rattle.finishing.proofs.Answers.{entry_finished}

-- a list is cut into pieces of one size by its elements
flat_only : (m n : ℕ) (f : ℕ → List ℕ) (l : List ℕ) → ((i : ℕ) → i < n → length (f i) ≡ m) → length l ≡ n * m
    → ((i x : ℕ) → i < n → x < m → get_or l (i * m + x) 0 ≡ get_or (f i) x 0) → l ≡ flat n f
flat_only m n f l sized long each = ext_get_or 0 l (flat n f) (long ∙ sym (flat_length m f n sized)) at
  where
    at : (e : ℕ) → e < length l → get_or l e 0 ≡ get_or (flat n f) e 0
    at e h =
        let p = place_of n m e (omega (arith, long)) in
        ap (λ z. get_or l z 0) (sym p.whole) ∙ each (e / m) (e % m) p.row p.place ∙ sym (flat_at m f n sized (e / m) (e % m) 0 p.row p.place)
        ∙ ap (λ z. get_or (flat n f) z 0) p.whole

module _ {dead helpers : List ℕ} {g : Layout} {u : ℕ} {sums pairs out : List ℕ} (F : Finishable dead helpers g u sums pairs out) where
  abbrev s : Shape
  s = g.shape

  abbrev M : ℕ
  M = message_size g.shape dead

  -- the entries that are asked for are no helper's
  asked_for : (e : ℕ) → Needed g.shape dead e → (e < g.shape.n + 1) × (member e helpers ≡ false)
  asked_for = needed_missing F.ready helpers F.rises F.apart

  own_entry_lem : (v : ℕ) → v < length dead → Needed g.shape dead (node dead v)
  unfolding node
  own_entry_lem v l = inr (member_of dead v l)

  pub finished_more : (x : ℕ) (column pairs_now out_now pairs_after out_after : List ℕ) → x < message_size g.shape dead → FinishedTo g.shape dead helpers u sums x pairs pairs_now out out_now
      → Answered g.shape.n (spot_at g.shape dead u x).a (node dead u) (others (g.shape.n + 1) helpers) (x * equations g.shape) sums column
      → PairAt (node dead u) g.shape.n x column pairs_now pairs_after → SentAt dead u (message_size g.shape dead) x (length dead - 1) column out_now out_after
      → FinishedTo g.shape dead helpers u sums (x + 1) pairs pairs_after out out_after
  finished_more x column pairs_now out_now pairs_after out_after l w A p q = record {
    pairs_same = p.long ∙ w.pairs_same;
    out_same = q.long ∙ w.out_same;
    first = λ y h. one y h (ℕ_discrete y x);
    second = λ y h. two y h (ℕ_discrete y x);
    sent = λ j y h k. three j y h k (ℕ_discrete y x);
  }
    where
      at : (e : ℕ) → Needed s dead e → element column e ≡ finished_at narrow s dead helpers u sums e x
      at e n = let w = asked_for e n in entry_finished s dead helpers u F.rises sums x column A e w.0 w.1

      one : (y : ℕ) → y < x + 1 → Dec (y ≡ x) → get_or pairs_after (y * 2) 0 ≡ finished_at narrow s dead helpers u sums (node dead u) y
      one y h (yes e) = rw e (p.first ∙ at (node dead u) (own_entry_lem u F.rank))
      one y h (no e) = (p.other y e).0 ∙ w.first y (omega arith)

      two : (y : ℕ) → y < x + 1 → Dec (y ≡ x) → get_or pairs_after (y * 2 + 1) 0 ≡ finished_at narrow s dead helpers u sums s.n y
      two y h (yes e) = rw e (p.second ∙ at s.n (inl refl))
      two y h (no e) = (p.other y e).1 ∙ w.second y (omega arith)

      three : (j y : ℕ) → j < length dead - 1 → y < x + 1 → Dec (y ≡ x)
          → get_or out_after (j * M + y) 0 ≡ finished_at narrow s dead helpers u sums (node dead (other_rank u j)) y
      three j y h k (yes e) =
          rw e (q.sent j h ∙ at (node dead (other_rank u j)) (own_entry_lem (other_rank u j) (other_is (length dead) u j F.rank h).0))
      three j y h k (no e) = q.other j y (omega arith) e ∙ w.sent j y h (omega arith)

  pub finished_all : (pairs_now out_now : List ℕ) → FinishedTo g.shape dead helpers u sums (message_size g.shape dead) pairs pairs_now out out_now
      → Finished g.shape dead helpers u sums pairs_now out_now
  unfolding finished_pairs finished_pair finished_exchanges finished_to
  finished_all pairs_now out_now w = record {
    own = flat_only 2 M (finished_pair narrow s dead helpers u sums) pairs_now (λ x l. refl) (w.pairs_same ∙ F.pairs_long ∙ omega arith) pair;
    sent =
        flat_only M (length dead - 1) (finished_to narrow s dead helpers u sums) out_now (λ j l. tabulate_length M _) (w.out_same ∙ F.out_long)
        (λ j y h l. w.sent j y h l ∙ sym (tabulate_at M (finished_at narrow s dead helpers u sums (node dead (other_rank u j))) y 0 l));
  }
    where
      pair : (x e : ℕ) → x < M → e < 2 → get_or pairs_now (x * 2 + e) 0 ≡ get_or (finished_pair narrow s dead helpers u sums x) e 0
      pair x zero l h = ap (λ z. get_or pairs_now z 0) (let z : x * 2 + 0 ≡ x * 2 = omega arith in z) ∙ w.first x l
      pair x (suc zero) l h = w.second x l
      pair x (suc (suc e)) l h = absurd (omega arith)
