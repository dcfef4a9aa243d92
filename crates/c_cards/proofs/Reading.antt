-- Reading a card into lent numbers, by the two cases of what `read` says. Assumes nothing.
use mathlib.Core.Path.{◌≡◌, refl, sym, ap, ◌∙◌, subst}
use mathlib.Core.List.{List}
use Prim.Native.Nat.{ℕ}
use lib.ListN.{length}
use lib.Ieee.{Float, Format}
use Rattle.std.specs.Prelude.{Result, Ok, Err}
use Rattle.answers.specs.declared.Refusal.{Refusal}
use Rattle.answers.specs.Answers.{is_done}
use Rattle.card_text.specs.Card.{read_answer}
use Rattle.answers.proofs.Kept.{err_not_done}
use Rattle.cards.specs.Read.{told, CardRead}
use Rattle.cards.proofs.Theorems.{told_refused, told_sizes}
use Rattle.c_codes.specs.Code.{code_of, Told}
use Rattle.c_codes.proofs.Codes.{done_is_zero}
use Rattle.c_cards.specs.Into.{CardInto}

module _ (f : Format) (d : ℕ) (s : List ℕ) (a q h r : List Float) (n m : ℕ) (a' q' h' r' : List Float) where
  module _ {c : Result (ℕ × ℕ) Refusal} (done : CardRead f d s a q h r c a' q' h' r') where
    -- the buffers, by what the definition says
    kept : CardRead f d s a q h r (told (read_answer d s (length a) (length q) (length h) (length r)) s) a' q' h' r'
    kept = subst (λ (x : Result (ℕ × ℕ) Refusal). CardRead f d s a q h r x a' q' h' r') done.answer done

    -- both sizes came back: the code is 0
    pub sized : {x y : ℕ} → c ≡ Ok (x, y) → Told (λ v. CardInto f d s a q h r n m v a' q' h' r' x y) 0
    sized {x} {y} e =
        let v = read_answer d s (length a) (length q) (length h) (length r) in
        let k = told_sizes v x y s (sym e ∙ done.answer) in
        record { answer = v; code = sym (done_is_zero v (ap is_done k.0)); kept = record { answer = refl; buffers = kept; states = rw k.0 k.1; observations = rw k.0 k.2 } }

    -- the card was refused: the lent numbers stay, and the code is the refusal's
    pub refused : {u : Refusal} {code : ℕ} → c ≡ Err u → code ≡ code_of (Err u) → Told (λ v. CardInto f d s a q h r n m v a' q' h' r' n m) code
    refused {u} {code} e g =
        let v = read_answer d s (length a) (length q) (length h) (length r) in
        let k = told_refused v u s (sym e ∙ done.answer) in
        record { answer = v; code = g ∙ ap code_of (sym k); kept = record { answer = refl; buffers = kept; states = rw (k, err_not_done u); observations = rw (k, err_not_done u) } }
