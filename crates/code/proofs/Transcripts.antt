-- Which archives are a transcript's: the codewords whose data nodes hold nothing above the largest byte (document 02 §5).
use mathlib.Core.Path.{◌≡◌, sym, subst}
use mathlib.Core.Logic.{◌↔◌}
use mathlib.Core.List.{List}
use Prim.Native.Nat.{ℕ, ◌+◌, ◌*◌, ◌≤◌, ◌<◌}
use native.Mathlib.Decide.{dec_lt}
use native.Mathlib.Nat.{mul-le-mul}
use native.Mathlib.Omega.{arith}
use lib.Arith.{digits_lt}
use lib.ListN.{length, get_or, take}
use lib.Seq.{get_or-take, length-take-le}
use Rattle.lists.proofs.Places.{place_of}
use Rattle.shape.specs.declared.Shape.{Shape}
use Rattle.shape.specs.Shape.{size}
use Rattle.code.specs.Code.{Code, GoodCode}
use Rattle.code.specs.Archive.{symbol, Codeword, written, LowData, OfTranscript}
use Rattle.code.proofs.High.{data_symbol}
use Rattle.code.proofs.Written.{Writable, low_writable, written_codeword, written_data, written_only}

module _ (values : ℕ) (c : Code) (s : Shape) where
  -- what is written of bytes has nothing else on its data nodes
  pub written_low : (bytes : List ℕ) → Writable c s bytes → 0 < values → ((b : ℕ) → b < length bytes → get_or bytes b 0 < values)
      → LowData values s (written c s bytes)
  unfolding symbol
  written_low bytes able some low = record { low = λ i place h l. each (i * size s + place) (digits_lt h l) (dec_lt _ _) }
    where
      each : (e : ℕ) → e < s.k * size s → Dec (e < length bytes) → get_or (written c s bytes) e 0 < values
      each e h (yes l) = subst (λ x. x < values) (sym ((written_data c s bytes able).byte e l)) (low e l)
      each e h (no l) = subst (λ x. x < values) (sym ((written_data c s bytes able).rest e (omega arith) h)) some

  module _ (good : GoodCode c s.n) (room : s.k ≤ s.n) (some : 0 < values) (wide : values ≤ c.modulus) (nodes : List ℕ) where
    writable : (bytes : List ℕ) → length bytes ≡ s.k * size s → ((b : ℕ) → b < s.k * size s → get_or bytes b 0 < values) → Writable c s bytes
    writable bytes long low = low_writable values c s bytes good room wide (λ b h. low b (omega arith)) (omega arith)

    -- the bytes are what the data nodes hold
    of_data : Codeword c s nodes × LowData values s nodes → OfTranscript values c s nodes
    of_data w = record {
      bytes = take (s.k * size s) nodes;
      long = long;
      low = low;
      whole = written_only c s (take (s.k * size s) nodes) (writable (take (s.k * size s) nodes) long low) nodes w.0 (record {
        byte = λ b h. sym (get_or-take (s.k * size s) nodes b 0 (omega (arith, long)));
        rest = λ e l h. absurd (omega (arith, long));
      });
    }
      where
        long : length (take (s.k * size s) nodes) ≡ s.k * size s
        long = length-take-le (s.k * size s) nodes (omega (arith, w.0.long, mul-le-mul {n₁ = s.k} {m₁ = size s} {n₂ = s.n} {m₂ = size s} room (omega arith)))

        low : (b : ℕ) → b < s.k * size s → get_or (take (s.k * size s) nodes) b 0 < values
        low b h =
            let p = place_of s.k (size s) b h in
            rw (get_or-take (s.k * size s) nodes b 0 h, ← (data_symbol s nodes b h)) (w.1.low _ _ p.row p.place)

    pub transcript_iff : (Codeword c s nodes × LowData values s nodes) ↔ OfTranscript values c s nodes
    transcript_iff = (
      of_data,
      λ t.
          let able = writable t.bytes t.long t.low in
          subst (λ w. Codeword c s w × LowData values s w) (sym t.whole)
          (written_codeword c s t.bytes able, written_low t.bytes able some (λ b h. t.low b (omega (arith, t.long)))),
    )
