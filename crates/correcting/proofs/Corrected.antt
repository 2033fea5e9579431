-- What the corrected nodes hold, symbol by symbol; and that correcting what was written is writing the corrected transcript.
use mathlib.Core.Path.{◌≡◌, sym, ap, ap₂, ◌∙◌}
use mathlib.Core.Logic.{◌≢◌}
use mathlib.Core.Bool.{false}
use mathlib.Core.List.{List}
use Prim.Native.Nat.{ℕ, ◌+◌, ◌*◌, ◌/◌, ◌%◌, ◌≤◌, ◌<◌}
use native.Mathlib.Decide.{ℕ_discrete}
use native.Mathlib.Nat.{mod-eq_of_lt}
use native.Mathlib.Omega.{arith}
use lib.Arith.{digits_lt, digits_div, digits_mod}
use lib.IntN.{ℤ}
use lib.ListN.{length, get_or, set, length-set}
use lib.Seq.{ext_get_or, get_or-set_same, get_or-set_other}
use Rattle.lists.specs.Lists.{range}
use Rattle.lists.proofs.Tests.{cond_equal, cond_unequal}
use Rattle.lists.proofs.Tables.{tabulate_length, tabulate_at}
use Rattle.lists.proofs.Places.{Place, place_of}
use Rattle.field.proofs.Fields.{pos}
use Rattle.rows.proofs.Rows.{low_each}
use Rattle.column.specs.Column.{completed}
use Rattle.column.proofs.Column.{completed_ext}
use Rattle.shape.specs.declared.Shape.{Shape}
use Rattle.shape.specs.Shape.{size, byte_values}
use Rattle.shape.specs.Refusals.{symbol_bad}
use Rattle.shape.proofs.Accepted.{symbols_accepted}
use Rattle.code.specs.Code.{Code}
use Rattle.code.specs.Archive.{symbol, column, place_points, restored_column, written}
use Rattle.code.proofs.Restored.{restored_at}
use Rattle.code.proofs.Written.{Writable, padding, padded_at, written_given, written_codeword, data_at}
use Rattle.multipliers.specs.Multipliers.{unit}
use Rattle.multipliers.proofs.Units.{unit_same, unit_other}
use Rattle.correcting.specs.Signed.{to_residue, change_bad, moved}
use Rattle.correcting.specs.Correcting.{change_factor, corrected_symbol, corrected, amended}
use Rattle.correcting.proofs.Signed.{Change, change_accepted, residue_moves}
use Rattle.correcting.proofs.Factors.{entry_moves}

-- ---- what the corrected nodes hold

-- where 5 is not the number, the symbols at the place are below the modulus
pub place_small : (c : Code) (s : Shape) (nodes : List ℕ) (place : ℕ) → symbol_bad c.modulus (column s nodes place) ≡ false
    → (i : ℕ) → i < s.n → symbol s nodes i place < c.modulus
unfolding column
place_small c s nodes place e i h =
    rw (sym (tabulate_at s.n (λ i. symbol s nodes i place) i 0 h))
    (symbols_accepted c.modulus (column s nodes place) e i (omega (arith, tabulate_length s.n (λ i. symbol s nodes i place))))

module _ (c : Code) (s : Shape) (nodes : List ℕ) (b : ℕ) (z : ℤ) where
  pub corrected_length : length (corrected c s nodes b z) ≡ s.n * size s
  unfolding corrected
  corrected_length = tabulate_length (s.n * size s) _

  module _ (i place : ℕ) (h : i < s.n) (l : place < size s) where
    abbrev M : ℕ
    M = size s

    held : symbol s (corrected c s nodes b z) i place ≡ corrected_symbol c s nodes b z (i * size s + place)
    unfolding corrected symbol
    held = tabulate_at (s.n * M) _ (i * M + place) 0 (digits_lt h l)

    -- at the byte's place: "by the change times a factor"
    pub corrected_there : place ≡ b % size s
        → symbol s (corrected c s nodes b z) i place
        ≡ (symbol s nodes i place + to_residue c.modulus z * change_factor c s (b / size s) (b % size s) i) % c.modulus
    unfolding corrected_symbol symbol
    corrected_there e =
        held ∙ cond_equal _ _ ((i * M + place) % M) (b % M) (digits_mod i l ∙ e)
        ∙ ap (λ u. (get_or nodes (i * M + place) 0 + to_residue c.modulus z * change_factor c s (b / M) (b % M) u) % c.modulus) (digits_div i l)

    -- nothing is added there where the change, or the factor, is 0
    pub corrected_kept : place ≡ b % size s → to_residue c.modulus z * change_factor c s (b / size s) (b % size s) i ≡ 0 → symbol s nodes i place < c.modulus
        → symbol s (corrected c s nodes b z) i place ≡ symbol s nodes i place
    corrected_kept e none small =
        corrected_there e ∙ ap (λ u. (symbol s nodes i place + u) % c.modulus) none ∙ ap (λ u. u % c.modulus) (omega arith) ∙ mod-eq_of_lt small

    -- "only at the byte's place"
    pub corrected_elsewhere : place ≢ b % size s → symbol s (corrected c s nodes b z) i place ≡ symbol s nodes i place
    unfolding corrected_symbol symbol
    corrected_elsewhere d = held ∙ cond_unequal _ _ ((i * M + place) % M) (b % M) (λ e. d (sym (digits_mod i l) ∙ e))

-- ---- what was written, at a place

module _ (c : Code) (s : Shape) (bytes : List ℕ) (able : Writable c s bytes) where
  -- nodes 0 to k-1 hold the bytes, and 0 behind them
  pub written_bytes : (e : ℕ) → e < s.k * size s → get_or (written c s bytes) e 0 ≡ get_or bytes e 0
  written_bytes e h = data_at c s bytes able e h ∙ padded_at c s bytes able e

  -- node i at a place, from the bytes there
  written_at : (i place : ℕ) → i < s.n → place < size s
      → symbol s (written c s bytes) i place ≡ get_or (completed c.modulus (place_points c s place) (range 0 s.k) (λ j. get_or bytes (j * size s + place) 0)) i 0
  unfolding written restored_column symbol
  written_at i place h l =
      restored_at c s (range 0 s.k) (padding s bytes) (written_given c s bytes able) i place h l
      ∙ ap (λ v. get_or v i 0) (completed_ext c.modulus (place_points c s place) (range 0 s.k) _ _ (λ j k. padded_at c s bytes able (j * size s + place)))

-- ---- correcting is writing afresh

module _ (c : Code) (s : Shape) (bytes : List ℕ) (able : Writable c s bytes) (wide : byte_values ≤ c.modulus) (b : ℕ) (z : ℤ) (in_length : b < length bytes)
    (fine : change_bad (get_or bytes b 0) z ≡ false) where
  abbrev q : ℕ
  q = c.modulus

  abbrev N : ℕ
  N = size s

  abbrev y : ℕ
  y = moved (get_or bytes b 0) z

  abbrev fresh : List ℕ
  fresh = set bytes b (moved (get_or bytes b 0) z)

  abbrev d : ℕ
  d = to_residue c.modulus z

  known : Change (get_or bytes b 0) z
  known = change_accepted (get_or bytes b 0) z fine

  at : Place s.k (size s) b
  at = place_of s.k N b (omega (arith, able.room))

  bytes_small : (e : ℕ) → get_or bytes e 0 < c.modulus
  bytes_small = (low_each q bytes (pos q able.code.prime) able.small).at

  fresh_here : get_or fresh b 0 ≡ y
  fresh_here = get_or-set_same bytes b y 0 in_length

  fresh_else : (e : ℕ) → e ≢ b → get_or fresh e 0 ≡ get_or bytes e 0
  fresh_else e n = get_or-set_other bytes b e y 0 n

  able_fresh : Writable c s fresh
  able_fresh = record {
    code = able.code;
    fits = able.fits;
    small = λ e h. each e (ℕ_discrete e b);
    room = omega (arith, length-set bytes b y, able.room);
  }
    where
      each : (e : ℕ) → Dec (e ≡ b) → get_or fresh e 0 < q
      each e (yes g) = rw (ap (λ u. get_or fresh u 0) g ∙ fresh_here) (omega (arith, known.low))
      each e (no g) = rw (fresh_else e g) (bytes_small e)

  y_is : (get_or bytes b 0 + d) % q ≡ y
  y_is = residue_moves q (get_or bytes b 0) z y (pos q able.code.prime) known.is ∙ mod-eq_of_lt (omega (arith, known.low))

  -- at the byte's place one data node's symbol changes by the change
  data_moves : (j : ℕ) → j < s.k → get_or fresh (j * size s + b % size s) 0 ≡ (get_or bytes (j * size s + b % size s) 0 + d * unit (b / size s) j) % q
  data_moves j h = go (ℕ_discrete j (b / N))
    where
      go : Dec (j ≡ b / N) → get_or fresh (j * N + b % N) 0 ≡ (get_or bytes (j * N + b % N) 0 + d * unit (b / N) j) % q
      go (yes e) =
          let is_b : j * N + b % N ≡ b = ap (λ u. u * N + b % N) e ∙ at.whole in
          ap (λ u. get_or fresh u 0) is_b ∙ fresh_here ∙ sym y_is
          ∙ sym (ap₂ (λ u v. (get_or bytes u 0 + d * v) % q) is_b (ap (unit (b / N)) e ∙ unit_same (b / N))
          ∙ ap (λ u. u % q) (let f : get_or bytes b 0 + d * 1 ≡ get_or bytes b 0 + d = omega arith in f))
      go (no e) =
          fresh_else _ (λ g. e (sym (digits_div j at.place) ∙ ap (λ u. u / N) g))
          ∙ sym (ap (λ v. (get_or bytes (j * N + b % N) 0 + d * v) % q) (unit_other (b / N) j e)
          ∙ ap (λ u. u % q) (let f : get_or bytes (j * N + b % N) 0 + d * 0 ≡ get_or bytes (j * N + b % N) 0 = omega arith in f) ∙ mod-eq_of_lt (bytes_small (j * N + b % N)))

  abbrev w : List ℕ
  w = written c s bytes

  abbrev w' : List ℕ
  w' = written c s fresh

  same_at : (i place : ℕ) → i < s.n → place < size s → Dec (place ≡ b % size s) → symbol s (corrected c s w b z) i place ≡ symbol s w' i place
  same_at i place h l (yes e) =
      corrected_there c s w b z i place h l e
      ∙ ap (λ p. (symbol s w i p + d * change_factor c s (b / N) (b % N) i) % q) e
      ∙ ap (λ u. (u + d * change_factor c s (b / N) (b % N) i) % q) (written_at c s bytes able i (b % N) h at.place)
      ∙ sym (entry_moves c s able.code able.fits (b / N) (b % N) at.row i h
      (λ j. get_or bytes (j * N + b % N) 0) (λ j. get_or fresh (j * N + b % N) 0) d (λ j _. bytes_small (j * N + b % N)) data_moves)
      ∙ sym (written_at c s fresh able_fresh i (b % N) h at.place) ∙ ap (symbol s w' i) (sym e)
  same_at i place h l (no n) =
      corrected_elsewhere c s w b z i place h l n
      ∙ written_at c s bytes able i place h l
      ∙ ap (λ v. get_or v i 0) (completed_ext q (place_points c s place) (range 0 s.k) _ _
      (λ j k. sym (fresh_else (j * N + place) (λ e. n (sym (digits_mod j l) ∙ ap (λ u. u % N) e)))))
      ∙ sym (written_at c s fresh able_fresh i place h l)

  -- "the result equals writing the corrected transcript afresh"
  pub corrected_written : corrected c s (written c s bytes) b z ≡ written c s (amended bytes b z)
  unfolding amended symbol
  corrected_written =
      ext_get_or 0 (corrected c s w b z) w' (corrected_length c s w b z ∙ sym (written_codeword c s fresh able_fresh).long)
      (λ e h. each e (place_of s.n N e (omega (arith, corrected_length c s w b z))))
    where
      each : (e : ℕ) → Place s.n N e → get_or (corrected c s w b z) e 0 ≡ get_or w' e 0
      each e p =
          ap (λ u. get_or (corrected c s w b z) u 0) (sym p.whole) ∙ same_at (e / N) (e % N) p.row p.place (ℕ_discrete (e % N) (b % N))
          ∙ ap (λ u. get_or w' u 0) p.whole
