-- Writing a card into lent bytes and a lent number, and its length alone, by the two cases of what is said. Assumes nothing.
use mathlib.Core.Path.{◌≡◌, refl, sym, ap, ◌∙◌, subst}
use mathlib.Core.List.{List}
use Prim.Native.Nat.{ℕ}
use lib.ListN.{length}
use lib.Ieee.{Float, Format}
use Rattle.std.specs.Prelude.{Result, Ok, Err}
use Rattle.answers.specs.declared.Refusal.{Refusal}
use Rattle.answers.specs.Answers.{is_done}
use Rattle.card_text.specs.Spelling.{card_length}
use Rattle.answers.proofs.Kept.{err_not_done}
use Rattle.cards.specs.Written.{sizes_answer, write_answer, measured, CardWritten}
use Rattle.cards.proofs.Theorems.{measured_refused, measured-length}
use Rattle.c_codes.specs.Code.{code_of, Told}
use Rattle.c_codes.proofs.Codes.{done_is_zero}
use Rattle.c_cards.specs.Out.{CardOut, LengthOut}

module _ (f : Format) (d n m : ℕ) (a q h r : List Float) (b : List ℕ) (l : ℕ) (b' : List ℕ) where
  module _ {c : Result ℕ Refusal} (done : CardWritten f d n m a q h r b c b') where
    -- the bytes, by what the definition says
    kept : CardWritten f d n m a q h r b (measured (write_answer d n m (length a) (length q) (length h) (length r) (length b)) (card_length d n m)) b'
    kept = subst (λ (x : Result ℕ Refusal). CardWritten f d n m a q h r b x b') done.answer done

    -- the length came back: the code is 0
    pub written : {k : ℕ} → c ≡ Ok k → Told (λ v. CardOut f d n m a q h r b l v b' k) 0
    written {k} e =
        let v = write_answer d n m (length a) (length q) (length h) (length r) (length b) in
        let t = measured-length v k (card_length d n m) (sym e ∙ done.answer) in
        record { answer = v; code = sym (done_is_zero v (ap is_done t.0)); kept = record { answer = refl; bytes = kept; long = rw t.0 t.1 } }

    -- it was refused: the lent number stays, and the code is the refusal's
    pub refused : {u : Refusal} {code : ℕ} → c ≡ Err u → code ≡ code_of (Err u) → Told (λ v. CardOut f d n m a q h r b l v b' l) code
    refused {u} {code} e g =
        let v = write_answer d n m (length a) (length q) (length h) (length r) (length b) in
        let t = measured_refused v u (card_length d n m) (sym e ∙ done.answer) in
        record { answer = v; code = g ∙ ap code_of (sym t); kept = record { answer = refl; bytes = kept; long = rw (t, err_not_done u) } }

module _ (d n m l : ℕ) {c : Result ℕ Refusal} (done : c ≡ measured (sizes_answer n m) (card_length d n m)) where
  pub measured-told : {k : ℕ} → c ≡ Ok k → Told (λ v. LengthOut d n m l v k) 0
  measured-told {k} e =
      let v = sizes_answer n m in
      let t = measured-length v k (card_length d n m) (sym e ∙ done) in
      record { answer = v; code = sym (done_is_zero v (ap is_done t.0)); kept = record { answer = refl; alone = rw t.0 t.1 } }

  pub refused_told : {u : Refusal} {code : ℕ} → c ≡ Err u → code ≡ code_of (Err u) → Told (λ v. LengthOut d n m l v l) code
  refused_told {u} {code} e g =
      let v = sizes_answer n m in
      let t = measured_refused v u (card_length d n m) (sym e ∙ done) in
      record { answer = v; code = g ∙ ap code_of (sym t); kept = record { answer = refl; alone = rw (t, err_not_done u) } }
