-- The data symbols: what the look at them answers, and what the answer tells.
use mathlib.Core.Path.{◌≡◌, sym, ap, ap₂, ◌∙◌, subst}
use mathlib.Core.Logic.{◌↔◌}
use mathlib.Core.Bool.{false, not}
use mathlib.Core.List.{List}
use Prim.Native.Nat.{ℕ, ◌+◌, ◌*◌, ◌/◌, ◌%◌, ◌<◌, ◌≤◌}
use native.Mathlib.Omega.{arith}
use borrow.Author.Tests.{lt-ltb, le-ltb}
use lib.Arith.{digits_lt, digits_div, digits_mod}
use lib.ListN.{length, get_or, take}
use lib.Seq.{get_or-take, length-take-le}
use Rattle.lists.specs.Lists.{below}
use Rattle.lists.proofs.Tests.{cond_equal, cond_unequal}
use Rattle.lists.proofs.Firsts.{first_found_lem}
use Rattle.lists.proofs.Places.{place_of}
use Rattle.shape.specs.declared.Shape.{Shape}
use Rattle.shape.specs.Shape.{size, byte_values}
use Rattle.shape.specs.Refusals.{symbol_bad}
use Rattle.shape.proofs.Accepted.{symbols_accepted}
use Rattle.code.specs.Archive.{symbol, high, first_high, LowData}
use Rattle.code.proofs.High.{data_symbol, high_upto, high_none_iff, high_first}
use Rattle.std.specs.Prelude.{Some, None}
use Rattle.checking.specs.declared.Fault.TheVariants.{HighData}
use Rattle.checking.specs.Promises.{data_by, symbol_number, FirstHigh}
use Rattle.checking.proofs.Answers.{fault_found, before_end, sound_at_end}

-- the data symbols below number e are bytes
abbrev pub LowBelow : List ℕ → ℕ → Type 0
LowBelow nodes e = (x : ℕ) → x < e → get_or nodes x 0 < byte_values

-- where all in front were looked at together
pub front_low : (nodes : List ℕ) (e : ℕ) → e ≤ length nodes → symbol_bad byte_values (take e nodes) ≡ false → LowBelow nodes e
front_low nodes e long w x l =
    subst (λ u. u < byte_values) (get_or-take e nodes x 0 l) (symbols_accepted byte_values (take e nodes) w x (omega (arith, length-take-le e nodes long)))

-- or one by one
pub low_front : (nodes : List ℕ) (e x : ℕ) → x ≤ e → LowBelow (take e nodes) x → LowBelow nodes x
low_front nodes e x h low y l = subst (λ u. u < byte_values) (get_or-take e nodes y 0 (omega arith)) (low y l)

module _ (s : Shape) (nodes : List ℕ) where
  -- all of them are
  pub low_when : LowBelow nodes (s.k * size s) → None ≡ data_by s (first_high byte_values s nodes)
  unfolding data_by symbol
  low_when h =
      sym (cond_equal _ _ _ _ ((high_none_iff byte_values s nodes).1 (record { low = λ i place l m. h (i * size s + place) (digits_lt l m) })))

  -- one is not, and those before it are
  pub high_when : (e : ℕ) → e < s.k * size s → LowBelow nodes e → byte_values ≤ get_or nodes e 0 → Some (HighData (e / size s) (e % size s)) ≡ data_by s (first_high byte_values s nodes)
  unfolding data_by first_high high below
  high_when e h before here =
      sym (cond_unequal _ _ e (s.k * size s) (λ z. omega arith))
      ∙ ap (data_by s) (sym (first_found_lem (high byte_values s nodes) 0 (s.k * size s) e (omega arith) (omega arith)
      (λ x _ l. ap not (lt-ltb _ byte_values (subst (λ u. u < byte_values) (sym (data_symbol s nodes x (omega arith))) (before x l))))
      (ap not (le-ltb _ byte_values (subst (λ u. byte_values ≤ u) (sym (data_symbol s nodes e h)) here)))))

  -- ---- looked for in the front of the nodes, k times as long as a node

  module _ (each : ℕ) (same : each ≡ size s) (room : s.k * each ≤ length nodes) where
    pub low_seen : (x : ℕ) → length (take (s.k * each) nodes) ≤ x → LowBelow (take (s.k * each) nodes) x → None ≡ data_by s (first_high byte_values s nodes)
    low_seen x end low =
        let long = length-take-le (s.k * each) nodes room in
        let all = ap (λ u. s.k * u) same in
        low_when (λ y l. low_front nodes (s.k * each) (s.k * each) (omega arith) (λ z m. low z (omega (arith, long))) y (omega (arith, all)))

    pub high_seen : (e : ℕ) → e < length (take (s.k * each) nodes) → LowBelow (take (s.k * each) nodes) e → byte_values ≤ get_or (take (s.k * each) nodes) e 0
        → Some (HighData (e / each) (e % each)) ≡ data_by s (first_high byte_values s nodes)
    high_seen e h low here =
        let long = length-take-le (s.k * each) nodes room in
        let inside : e < s.k * each = omega (arith, long) in
        rw (← same) at
        (high_when e (rw same at inside) (low_front nodes (s.k * each) e (omega arith) low) (subst (λ u. byte_values ≤ u) (get_or-take (s.k * each) nodes e 0 inside) here))

  -- ---- what the answer tells

  pub low_iff : (data_by s (first_high byte_values s nodes) ≡ None) ↔ LowData byte_values s nodes
  unfolding data_by
  low_iff =
      let at-end = sound_at_end _ _ _ (fault_found _) in
      let none = high_none_iff byte_values s nodes in
      (λ e. none.0 (at-end.0 e), λ w. at-end.1 (none.1 w))

  -- a symbol that is named is the first above 255
  pub high_tells : (node place : ℕ) → data_by s (first_high byte_values s nodes) ≡ Some (HighData node place) → FirstHigh s nodes node place
  unfolding data_by symbol_number
  high_tells node place e =
      let w = before_end _ _ _ (Some (HighData node place)) (fault_found _) e in
      let f = high_first byte_values s nodes w.0 in
      let p = place_of s.k (size s) (first_high byte_values s nodes) (omega (arith, w.0, high_upto byte_values s nodes)) in
      let same = w.1 in
      let i : first_high byte_values s nodes / size s ≡ node = cc in
      let j : first_high byte_values s nodes % size s ≡ place = cc in
      let whole : first_high byte_values s nodes ≡ node * size s + place = sym p.whole ∙ ap₂ (λ x y. x * size s + y) i j in
      record {
        node_below = rw i at p.row;
        place_below = rw j at p.place;
        here = subst (λ u. byte_values ≤ u) (ap₂ (symbol s nodes) i j) f.0;
        before = λ x y h less.
            subst (λ u. u < byte_values) (ap₂ (symbol s nodes) (digits_div x h) (digits_mod x h)) (f.1 (x * size s + y) (omega arith));
      }
