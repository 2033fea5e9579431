-- What a list of losses needs: the layers that serve it are the multiples of one number, which the loop works out.
use mathlib.Core.Path.{◌≡◌, refl, sym, ap, ap₂, subst, ◌∙◌}
use mathlib.Core.Bool.{true, false, not, ◌&&◌, and-true, and_assoc, not-not}
use mathlib.Core.List.{List}
use Prim.Native.Nat.{ℕ, ◌+◌, ◌%◌, ◌≤◌, ◌<◌}
use native.Mathlib.Nat.{mod-eq_of_lt, mod_self, mod-one, le_of_dvd, dvd_of_mod-eq-zero}
use native.Mathlib.Omega.{arith}
use borrow.Author.Tests.{eqb-true, eq-eqb, ne_eqb, not-false}
use lib.Dec.{eqb}
use lib.ListN.{length, get_or, drop}
use Rattle.lists.specs.Lists.{all, range}
use Rattle.lists.proofs.Scans.{drop_next, all_end}
use Rattle.lists.proofs.Tests.{all_at}
use Rattle.lists.proofs.Tables.{range_length, range_at}
use Rattle.lists.proofs.Firsts.{first_none, first_found_lem}
use Rattle.shape.specs.Shape.{most_nodes, most_layers, within}
use Rattle.shape.specs.Batches.{odd_part}
use Rattle.std.specs.Prelude.{Result, Ok, Err}
use Rattle.shape.specs.declared.Refusal.{Refusal}
use Rattle.shape.specs.declared.Refusal.TheVariants.{BadNodes}
use Rattle.shape.specs.Refusals.{answer_number, answer_values, layers_bad}
use Rattle.shape.proofs.Accepted.{passed}
use Rattle.shape.proofs.Answers.{turned_back}
use Rattle.choosing.specs.Layers.{serves, serves_all, least_layers}
use Rattle.choosing.specs.Promises.{Common, Needed}

-- ---- one loss

-- the layers that serve a loss are the multiples of its batch
pub serves_multiple : (m h : ℕ) → serves m h ≡ eqb (m % odd_part h (h + 1)) 0
unfolding serves layers_bad
serves_multiple m h = not-not (eqb (m % odd_part h (h + 1)) 0)

-- 3² × 5 × 7 × 11 × 13, which serves every loss of fewer than 14 nodes: the number that is worked out divides it, and so is small
abbrev serves_any : ℕ
serves_any = 45045

served_any : all (serves serves_any) (range 0 most_nodes) ≡ true
unfolding all range serves layers_bad odd_part
served_any = refl

pub any_served : (h : ℕ) → h < most_nodes → serves_any % odd_part h (h + 1) ≡ 0
any_served h l =
    eqb-true (serves_any % odd_part h (h + 1)) 0
    (sym (serves_multiple serves_any h)
    ∙ ap (serves serves_any) (let e : h ≡ 0 + h = omega arith in e ∙ sym (range_at 0 most_nodes h l))
    ∙ all_at (serves serves_any) (range 0 most_nodes) served_any h (rw (range_length 0 most_nodes) l))

pub divisor_small : (x : ℕ) → serves_any % x ≡ 0 → x ≤ serves_any
divisor_small x e = le_of_dvd (omega arith) (dvd_of_mod-eq-zero x e)

-- ---- the loop

-- the layers that serve all losses: the multiples of `least` that serve those from i on
pub record NeededFrom (losses : List ℕ) (i least : ℕ) : Type 0 where
  pub positive : 0 < least
  pub divides : serves_any % least ≡ 0
  pub exactly : (m : ℕ) → serves_all losses m ≡ (eqb (m % least) 0 && all (serves m) (drop i losses))

pub needed_none : (losses : List ℕ) → NeededFrom losses 0 1
unfolding serves_all
needed_none losses = record { positive = omega arith; divides = refl; exactly = λ m. rw (mod-one m) refl }

module _ (losses : List ℕ) (i least : ℕ) (N : NeededFrom losses i least) where
  pub needed_more : (x : ℕ) → i < length losses → get_or losses i 0 < most_nodes → Common least (odd_part (get_or losses i 0) (get_or losses i 0 + 1)) x → NeededFrom losses (i + 1) x
  unfolding all
  needed_more x l few c =
      let h = get_or losses i 0 in
      let s = odd_part h (h + 1) in
      record {
        positive = c.positive;
        divides = eqb-true _ 0 (c.multiples serves_any ∙ ap₂ ◌&&◌ (eq-eqb _ 0 N.divides) (eq-eqb _ 0 (any_served h few)));
        exactly = λ m.
            N.exactly m
            ∙ ap (λ xs. eqb (m % least) 0 && all (serves m) xs) (drop_next losses i 0 l)
            ∙ ap (λ b. eqb (m % least) 0 && (b && all (serves m) (drop (i + 1) losses))) (serves_multiple m h)
            ∙ sym (and_assoc (eqb (m % least) 0) (eqb (m % s) 0) (all (serves m) (drop (i + 1) losses)))
            ∙ ap (λ b. b && all (serves m) (drop (i + 1) losses)) (sym (c.multiples m));
      }

  -- behind the last loss the layers that serve the list are the multiples of `least`
  pub needed_all : length losses ≤ i → (m : ℕ) → serves_all losses m ≡ eqb (m % least) 0
  needed_all end m = N.exactly m ∙ ap (λ b. eqb (m % least) 0 && b) (all_end (serves m) losses i end) ∙ and-true (eqb (m % least) 0)

-- ---- what the pass finds

-- an answer that is a number has one value
value_only : {found other : ℕ} → ◌≡◌ {A = Result ℕ Refusal} (Ok found) (Ok other) → found ≡ other
value_only e = ap (λ xs. get_or xs 0 0) (ap answer_values e)

module _ (most : ℕ) (losses : List ℕ) where
  pub needed_outside : all (within 1 most) losses ≡ false → Needed most losses (Err BadNodes)
  needed_outside e = record {
    number = rw e refl;
    positive = λ least z. absurd (turned_back BadNodes least z);
    multiples = λ least z. absurd (turned_back BadNodes least z);
  }

  pub needed_inside : (least : ℕ) → all (within 1 most) losses ≡ true → 0 < least → ((m : ℕ) → serves_all losses m ≡ eqb (m % least) 0) → Needed most losses (Ok least)
  needed_inside least e some exactly = record {
    number = rw e refl;
    positive = λ other z. subst (λ x. 0 < x) (value_only z) some;
    multiples = λ other z m. exactly m ∙ ap (λ x. eqb (m % x) 0) (value_only z);
  }

  pub needed_ranged : (found : Result ℕ Refusal) (least : ℕ) → Needed most losses found → found ≡ Ok least → all (within 1 most) losses ≡ true
  needed_ranged found least N e = not-false _ (passed (not (all (within 1 most) losses)) 1 0 (sym N.number ∙ ap answer_number e)).0

-- ---- the smallest L

module _ (losses : List ℕ) (least : ℕ) (some : 0 < least) (multiples : (m : ℕ) → serves_all losses m ≡ eqb (m % least) 0) where
  fewer_fail : (m : ℕ) → 1 ≤ m → m < least → serves_all losses m ≡ false
  fewer_fail m l k = multiples m ∙ ne_eqb (m % least) 0 (λ e. omega (arith, sym (mod-eq_of_lt k) ∙ e))

  pub needed_least : least ≤ most_layers → least_layers losses ≡ least
  unfolding least_layers
  needed_least l = first_found_lem (serves_all losses) 1 most_layers least some (omega arith) fewer_fail (multiples least ∙ eq-eqb _ 0 (mod_self least))

  pub needed_over : most_layers < least → most_layers < least_layers losses
  unfolding least_layers
  needed_over l = omega (arith, first_none (serves_all losses) 1 most_layers (λ m k u. fewer_fail m k (omega arith)))
