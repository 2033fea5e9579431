-- The record of those heard: where its nodes stand, how it is judged, and what noting a helper makes of it.
use mathlib.Core.Path.{◌≡◌, refl, sym, ap, ap₂, ◌∙◌}
use mathlib.Core.Bool.{Bool, true, false, not, ◌&&◌, ◌||◌}
use mathlib.Core.Logic.{◌⊎◌, inl, inr}
use Rattle.std.specs.Prelude.{min}
use mathlib.Core.List.{List, [], ◌∷◌, ◌++◌}
use Prim.Native.Nat.{ℕ, suc, ◌+◌, ◌-◌, ◌≤◌, ◌<◌}
use native.Mathlib.Numerals.{add-one}
use native.Mathlib.Omega.{arith}
use borrow.Author.Tests.{ltb-false, lt-ltb, le-ltb, not-false}
use lib.Dec.{ltb}
use lib.ListN.{length, get_or, take, drop, set, replicate, length-append, drop_of_length-le, length-set, length-take, length-replicate, get_or-replicate}
use lib.Seq.{take_all, take-suc-set}
use Rattle.lists.specs.Lists.{all, member, outside}
use Rattle.lists.proofs.Tests.{below_or_not, both, neither, at_all}
use Rattle.lists.proofs.Members.{member_of, all_member}
use Rattle.lists.proofs.Scans.{drop_next}
use Rattle.shape.specs.declared.Shape.{Shape}
use Rattle.shape.specs.Shape.{most_nodes}
use Rattle.shape.specs.Refusals.{refuse, shape_bad, repair_bad, layers_bad}
use Rattle.shape.proofs.Accepted.{shape_accepted, repair_accepted}
use Rattle.classes.specs.Classes.{batch}
use Rattle.judging.specs.Refusals.{lists_refusal}
use Rattle.judging.proofs.Judged.{inside}
use Rattle.arrival.specs.Record.{heard_count, heard_nodes, nobody, noted, distinct, among, record_bad, caller_bad}
use Rattle.arrival.proofs.Sets.{Within, within_fits, within_more, distinct_more}

pub count_at : (heard : List ℕ) → heard_count heard ≡ get_or heard 0 0
unfolding heard_count
count_at [] = refl
count_at (x ∷ xs) = refl

pub count_none : (heard : List ℕ) → length heard ≡ 0 → heard_count heard ≡ 0
unfolding heard_count
count_none [] h = refl
count_none (x ∷ xs) h = absurd (omega arith)

-- ---- where the nodes stand

pub nodes_none : (heard : List ℕ) → length heard ≡ 0 → heard ≡ heard_nodes heard
unfolding heard_nodes
nodes_none [] h = refl
nodes_none (x ∷ xs) h = absurd (omega arith)

-- all that are counted, or as many as there are
front : (last x : ℕ) (xs : List ℕ) → last ≡ min (length xs) x → take last xs ≡ take x xs
front last x xs e = go (below_or_not x (length xs))
  where
    go : (x < length xs) ⊎ (length xs ≤ x) → take last xs ≡ take x xs
    go (inl l) = ap (λ n. take n xs) (omega (arith, e))
    go (inr l) = take_all last xs (omega (arith, e)) ∙ sym (take_all x xs l)

pub nodes_front : (heard : List ℕ) (last : ℕ) → 0 < length heard → last ≡ min (length (take (length heard - 1) (drop 1 heard))) (get_or heard 0 0)
    → take last (take (length heard - 1) (drop 1 heard)) ≡ heard_nodes heard
unfolding heard_nodes
nodes_front [] last h e = absurd (omega arith)
nodes_front (x ∷ xs) last h e =
    let all : take (length (x ∷ xs) - 1) xs ≡ xs = take_all _ xs (omega arith) in
    ap (take last) all ∙ front last x xs (e ∙ ap (λ l. min (length l) x) all)

-- ---- nodes that are helpers, none of them twice

-- what is tested of a list of nodes
abbrev pub wrong : List ℕ → List ℕ → Bool
wrong helpers nodes = not (distinct nodes && all (among helpers) nodes)

module _ (helpers nodes : List ℕ) (j : ℕ) where
  -- by the node at j, and those behind it
  wrong_by : j < length nodes
      → wrong helpers (drop j nodes)
      ≡ ((member (get_or nodes j 0) (drop (j + 1) nodes) || not (member (get_or nodes j 0) helpers)) || wrong helpers (drop (j + 1) nodes))
  unfolding distinct all among
  wrong_by h =
      rw (drop_next nodes j 0 h)
      (go (member (get_or nodes j 0) (drop (j + 1) nodes)) (member (get_or nodes j 0) helpers) (distinct (drop (j + 1) nodes)) (all (λ x. member x helpers) (drop (j + 1) nodes)))
    where
      go : (x m d a : Bool) → not ((not x && d) && (m && a)) ≡ ((x || not m) || not (d && a))
      go true m d a = refl
      go false true d a = refl
      go false false true a = refl
      go false false false a = refl

  pub wrong_stop : (x m : Bool) → j < length nodes → x ≡ member (get_or nodes j 0) (drop (j + 1) nodes) → m ≡ member (get_or nodes j 0) helpers → (x || not m) ≡ true
      → wrong helpers (drop j nodes) ≡ true
  wrong_stop x m h e f t = wrong_by h ∙ ap₂ (λ a b. (a || not b) || wrong helpers (drop (j + 1) nodes)) (sym e) (sym f) ∙ ap (λ z. z || wrong helpers (drop (j + 1) nodes)) t

  pub wrong_on : (x m : Bool) → j < length nodes → x ≡ member (get_or nodes j 0) (drop (j + 1) nodes) → m ≡ member (get_or nodes j 0) helpers → (x || not m) ≡ false
      → wrong helpers (drop j nodes) ≡ wrong helpers (drop (j + 1) nodes)
  wrong_on x m h e f t = wrong_by h ∙ ap₂ (λ a b. (a || not b) || wrong helpers (drop (j + 1) nodes)) (sym e) (sym f) ∙ ap (λ z. z || wrong helpers (drop (j + 1) nodes)) t

  pub wrong_end : length nodes ≤ j → wrong helpers (drop j nodes) ≡ false
  unfolding distinct all
  wrong_end h = rw (drop_of_length-le nodes h)

-- ---- a record, and a helper that calls

pub or_true : (x : Bool) → (x || true) ≡ true
or_true true = refl
or_true false = refl

module _ (most : ℕ) (helpers heard : List ℕ) where
  pub record_over : most < heard_count heard → record_bad most helpers heard ≡ true
  unfolding record_bad
  record_over h = rw (lt-ltb most (heard_count heard) h)

  pub record_by : heard_count heard ≤ most → record_bad most helpers heard ≡ wrong helpers (heard_nodes heard)
  unfolding record_bad
  record_by h = rw (le-ltb most (heard_count heard) h)

  pub caller_record : (helper : ℕ) → record_bad most helpers heard ≡ true → caller_bad most helpers heard helper ≡ true
  unfolding caller_bad
  caller_record helper e = rw e (or_true (outside helpers helper || member helper (heard_nodes heard)))

  pub caller_by : (helper : ℕ) → record_bad most helpers heard ≡ false → caller_bad most helpers heard helper ≡ (outside helpers helper || member helper (heard_nodes heard))
  unfolding caller_bad
  caller_by helper e = rw e (go (outside helpers helper || member helper (heard_nodes heard)))
    where
      go : (x : Bool) → (x || false) ≡ x
      go true = refl
      go false = refl

-- what is known of a record that is not bad
pub record Recorded (most : ℕ) (helpers heard : List ℕ) : Type 0 where
  pub few : heard_count heard ≤ most
  pub once : distinct (heard_nodes heard) ≡ true
  pub known : Within (heard_nodes heard) helpers

module _ (most : ℕ) (helpers heard : List ℕ) where
  pub record_accepted : record_bad most helpers heard ≡ false → Recorded most helpers heard
  unfolding record_bad
  record_accepted e =
      let v = neither (ltb most (heard_count heard)) (wrong helpers (heard_nodes heard)) e in
      let w = both (distinct (heard_nodes heard)) (all (among helpers) (heard_nodes heard)) (not-false _ v.1) in
      record { few = ltb-false most (heard_count heard) v.0; once = w.0; known = λ y m. unfold among in all_member (among helpers) (heard_nodes heard) w.1 y m }

  pub record_right : Recorded most helpers heard → record_bad most helpers heard ≡ false
  unfolding among
  record_right R =
      record_by most helpers heard R.few
      ∙ ap not
      (ap₂ ◌&&◌ R.once (at_all (among helpers) (heard_nodes heard) (λ j l. R.known (get_or (heard_nodes heard) j 0) (member_of (heard_nodes heard) j l))))

  pub caller_accepted : (helper : ℕ) → caller_bad most helpers heard helper ≡ false
      → (member helper helpers ≡ true) × (member helper (heard_nodes heard) ≡ false) × Recorded most helpers heard
  unfolding caller_bad
  caller_accepted helper e =
      let v = neither (outside helpers helper || member helper (heard_nodes heard)) (record_bad most helpers heard) e in
      let w = neither (outside helpers helper) (member helper (heard_nodes heard)) v.0 in
      (inside helper helpers w.0, w.1, record_accepted v.1)

  pub caller_right : (helper : ℕ) → member helper helpers ≡ true → member helper (heard_nodes heard) ≡ false → Recorded most helpers heard
      → caller_bad most helpers heard helper ≡ false
  unfolding outside
  caller_right helper m n R = caller_by most helpers heard helper (record_right R) ∙ ap₂ (λ a b. not a || b) m n

-- ---- one more heard

pub nodes_length : (heard : List ℕ) → heard_count heard < length heard → length (heard_nodes heard) ≡ heard_count heard
unfolding heard_count heard_nodes
nodes_length [] h = absurd (omega arith)
nodes_length (count ∷ rest) h = omega (arith, length-take count rest)

pub noted_length : (helper : ℕ) (heard : List ℕ) → length (noted helper heard) ≡ length heard
unfolding noted
noted_length helper [] = refl
noted_length helper (count ∷ rest) = ap suc (length-set rest count helper)

pub noted_count : (helper : ℕ) (heard : List ℕ) → 0 < length heard → heard_count (noted helper heard) ≡ heard_count heard + 1
unfolding heard_count noted
noted_count helper [] h = absurd (omega arith)
noted_count helper (count ∷ rest) h = refl

pub noted_nodes : (helper : ℕ) (heard : List ℕ) → heard_count heard + 1 < length heard → heard_nodes (noted helper heard) ≡ heard_nodes heard ++ helper ∷ []
unfolding heard_count heard_nodes noted
noted_nodes helper [] h = absurd (omega arith)
noted_nodes helper (count ∷ rest) h = ap (λ k. take k (set rest count helper)) (add-one count) ∙ take-suc-set rest count helper (omega arith)

-- as it is written: the node, and then the count
pub noted_is : (heard : List ℕ) (helper : ℕ) → 0 < length heard → set (set heard (get_or heard 0 0 + 1) helper) 0 (get_or heard 0 0 + 1) ≡ noted helper heard
unfolding noted
noted_is [] helper h = absurd (omega arith)
noted_is (count ∷ rest) helper h = ap (λ k. set (set (count ∷ rest) k helper) 0 (count + 1)) (add-one count)

pub nobody_length : (s : Shape) → length (nobody s) ≡ s.k + 2
unfolding nobody
nobody_length s = length-replicate (s.k + 2) 0

pub nobody_count : (s : Shape) → heard_count (nobody s) ≡ 0
unfolding nobody
nobody_count s = count_at (replicate (s.k + 2) 0) ∙ get_or-replicate (s.k + 2) 0 0 0 (omega arith)

pub nobody_nodes : (s : Shape) → heard_nodes (nobody s) ≡ []
nobody_nodes s = none (heard_nodes (nobody s)) (nodes_length (nobody s) (omega (arith, nobody_length s, nobody_count s)) ∙ nobody_count s)
  where
    none : (xs : List ℕ) → length xs ≡ 0 → xs ≡ []
    none [] e = refl
    none (x ∷ xs) e = absurd (omega arith)

-- a helper that may be heard is one more: there is room for it
pub caller_room : (s : Shape) (dead helpers heard : List ℕ) (helper : ℕ) → repair_bad s dead helpers ≡ false → caller_bad (s.k + 1) helpers heard helper ≡ false
    → length heard ≡ s.k + 2 → heard_count heard + 1 < length heard
caller_room s dead helpers heard helper a b long =
    let w = caller_accepted (s.k + 1) helpers heard helper b in
    let R = w.2 in
    let more = within_fits (heard_nodes heard ++ helper ∷ []) helpers (distinct_more helper (heard_nodes heard) R.once w.1)
    (within_more helper (heard_nodes heard) helpers R.known w.0) in
    let now = nodes_length heard (omega (arith, R.few)) in
    omega (arith, more, now, length-append (heard_nodes heard) (helper ∷ []), (repair_accepted s dead helpers a).helpers_count)

-- what is said of long lists does not matter: they are turned back
pub lists_by : (s : Shape) (dead helpers : List ℕ) (x a b : Bool) (rest : ℕ) → (length helpers ≡ s.k + 1 → s.k + 1 ≤ most_nodes → a ≡ b)
    → lists_refusal s dead helpers (x || a) rest ≡ lists_refusal s dead helpers (x || b) rest
unfolding lists_refusal
lists_by s dead helpers x a b rest h = go (shape_bad s) refl (repair_bad s dead helpers) refl
  where
    few : shape_bad s ≡ false → repair_bad s dead helpers ≡ false → a ≡ b
    few e f = let r = repair_accepted s dead helpers f in let z = shape_accepted s e in h r.helpers_count (omega (arith, r.few_dead, r.some_dead, z.n_high))

    go : (t : Bool) → shape_bad s ≡ t → (v : Bool) → repair_bad s dead helpers ≡ v
        → refuse t 1 (refuse (v || (x || a)) 2 (refuse (layers_bad s.layers (batch dead)) 3 rest))
        ≡ refuse t 1 (refuse (v || (x || b)) 2 (refuse (layers_bad s.layers (batch dead)) 3 rest))
    go true e v f = refl
    go false e true f = refl
    go false e false f = rw (few e f)
