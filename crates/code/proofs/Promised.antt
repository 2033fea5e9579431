-- The promises of write, restore and open: of a call that did its work, and of one that was turned back.
use mathlib.Core.Path.{◌≡◌, refl, sym, subst}
use mathlib.Core.Bool.{true}
use mathlib.Core.List.{List}
use Prim.Native.Nat.{ℕ}
use native.Mathlib.Omega.{arith}
use lib.ListN.{length, take}
use Rattle.lists.specs.Lists.{all, below}
use Rattle.shape.specs.declared.Shape.{Shape}
use Rattle.std.specs.Prelude.{Ok, Err}
use Rattle.shape.specs.declared.Refusal.{Refusal}
use Rattle.shape.specs.Shape.{byte_values}
use Rattle.shape.specs.Refusals.{number_of}
use Rattle.shape.proofs.Answers.{number_positive, turned_back, afterwards_done, afterwards_refused}
use Rattle.code.specs.Code.{narrow}
use Rattle.code.specs.Archive.{restored, written, data_of}
use Rattle.code.specs.Refusals.{write_refusal, restore_refusal, open_input_refusal, open_refusal}
use Rattle.code.specs.Promises.{Writes, Restores, Opens}
use Rattle.code.proofs.Restored.{restored_codeword, restored_holds, restored_only}
use Rattle.code.proofs.Written.{written_codeword, written_byte, written_rest}
use Rattle.code.proofs.Accepted.{write_accepted, restore_accepted, open_iff, open_gives}
use Rattle.code.proofs.Sized.{sized_input}

module _ (s : Shape) (bytes before : List ℕ) where
  pub writes_refused : (cause : Refusal) → number_of cause ≡ write_refusal s bytes (length before) → Writes s bytes before before (Err cause)
  writes_refused cause e = record {
    number = e;
    nodes = sym (afterwards_refused before _ cause _ e);
    codeword = λ z. absurd (turned_back cause tt z);
    byte = λ z. absurd (turned_back cause tt z);
    rest = λ z. absurd (turned_back cause tt z);
  }

  pub writes_done : (after : List ℕ) → write_refusal s bytes (length before) ≡ 0 → all (below byte_values) bytes ≡ true → after ≡ written narrow s bytes
      → Writes s bytes before after (Ok tt)
  writes_done after e small w =
      let able = (write_accepted s bytes (length before) e small).able in
      subst (λ a. Writes s bytes before a (Ok tt)) (sym w) (record {
        number = sym e;
        nodes = sym (afterwards_done before _ _ e);
        codeword = λ _. written_codeword narrow s bytes able;
        byte = λ _. written_byte narrow s bytes able;
        rest = λ _. written_rest narrow s bytes able;
      })

module _ (s : Shape) (list symbols before : List ℕ) where
  pub restores_refused : (cause : Refusal) → number_of cause ≡ restore_refusal narrow s list symbols (length before) → Restores s list symbols before before (Err cause)
  restores_refused cause e = record {
    number = e;
    nodes = sym (afterwards_refused before _ cause _ e);
    codeword = λ z. absurd (turned_back cause tt z);
    holds = λ z. absurd (turned_back cause tt z);
    only = λ z. absurd (turned_back cause tt z);
  }

  pub restores_done : (after : List ℕ) → restore_refusal narrow s list symbols (length before) ≡ 0 → after ≡ restored narrow s list symbols
      → Restores s list symbols before after (Ok tt)
  restores_done after e w =
      let given = (restore_accepted s list symbols (length before) e).given in
      subst (λ a. Restores s list symbols before a (Ok tt)) (sym w) (record {
        number = sym e;
        nodes = sym (afterwards_done before _ _ e);
        codeword = λ _. restored_codeword narrow s list symbols given;
        holds = λ _. restored_holds narrow s list symbols given;
        only = λ _. restored_only narrow s list symbols given;
      })

module _ (s : Shape) (list symbols : List ℕ) (len : ℕ) (before : List ℕ) where
  pub opens_refused : (cause : Refusal) → number_of cause ≡ open_refusal narrow s list symbols len (length before) → Opens s list symbols len before before (Err cause)
  opens_refused cause e = record {
    number = e;
    transcript = sym (afterwards_refused before _ cause _ e);
    opens = λ sized. (
      λ z. absurd (turned_back cause tt z),
      λ t. absurd (omega (arith, number_positive cause, e, (open_iff s list symbols len (length before) (sized_input s list symbols len (length before) sized t)).1 t)),
    );
    gives = λ z. absurd (turned_back cause tt z);
  }

  pub opens_done : (after : List ℕ) → open_input_refusal narrow s list symbols len (length before) 0 ≡ 0 → open_refusal narrow s list symbols len (length before) ≡ 0
      → after ≡ take len (data_of narrow s list symbols) → Opens s list symbols len before after (Ok tt)
  opens_done after input e w =
      subst (λ a. Opens s list symbols len before a (Ok tt)) (sym w) (record {
        number = sym e;
        transcript = sym (afterwards_done before _ _ e);
        opens = λ _. (λ _. (open_iff s list symbols len (length before) input).0 e, λ _. refl);
        gives = λ _. open_gives s list symbols len (length before) input;
      })
