-- `unpacking::read_symbols` meets its contract: what was read is in the buffer up to a symbol, and the rest can be read at the place.
use mathlib.Core.Path.{sym, ap, ◌∙◌}
use mathlib.Core.List.{◌++◌, append-nil}
use native.Mathlib.Nat.{sub-zero}
use native.Mathlib.Omega.{arith}
use lib.ListN.{length, take}
use lib.Seq.{take_all}
use Rattle.lists.proofs.Buffers.{take_more}
use Rattle.shape.specs.Shape.{symbol_values}
use Rattle.card.proofs.Reading.{symbols_good, scan_kept, kept_never, kept_end}
use Rattle.unpacking.proofs.read_symbols.Goals as goal

pub loop-symbol-init : goal.loop-symbol-init
loop-symbol-init c = (rw sub-zero (symbols_good _ _ _ c.requires), rw sub-zero)

pub returns-in_default : goal.returns-in_default
returns-in_default c =
    let l = c.loop-symbol in
    absurd (kept_never _ _ _ _ l.symbol-index (omega arith) (sym c.read_number.ensures ∙ c.in_default.is) l.invariant.0)

pub overflow_cast-symbol : goal.overflow_cast-symbol
overflow_cast-symbol c =
    let l = c.loop-symbol in
    let n = length c.args.symbols.now in
    omega (arith, (scan_kept _ _ _ n l.symbol-index _ _ (omega arith) (sym c.read_number.ensures ∙ c.in-Some.is) l.invariant.0).small)

pub loop-symbol-preserved : goal.loop-symbol-preserved
loop-symbol-preserved c =
    let l = c.loop-symbol in
    let i = l.symbol-index in
    let n = length c.args.symbols.now in
    let kept = scan_kept _ _ _ n i _ _ (omega arith) (sym c.read_number.ensures ∙ c.in-Some.is) l.invariant.0 in
    (kept.rest, l.invariant.1 ∙ ap (λ t. take i l.symbols ++ t) kept.first ∙ take_more l.symbols i _ _ (omega arith))

pub returns : goal.returns
returns c =
    let l = c.loop-symbol in
    let n = length c.args.symbols.now in
    sym (l.invariant.1 ∙ rw (kept_end symbol_values _ l.at n l.symbol-index (omega arith), take_all l.symbol-index l.symbols (omega arith)) (append-nil l.symbols))
