-- A text that fits what is lent, and one that does not.
use Rattle.std.specs.Prelude.{List, ◌++◌, ◌≡◌, refl, ℕ, ◌≤◌, ◌<◌, length, drop, Ok, Err, [], ◌∷◌}
use Rattle.std.proofs.Common.{ap, ◌∙◌, zero-add, arith, lt-ltb, le-ltb, ltb-false}
use Rattle.base.specs.Lent.{lent}
use Rattle.base.specs.LentLaws.{lent_front}
use Rattle.base.specs.Lists.{cleared, splice, splice_fits}
use Rattle.base.specs.Refusals.{first, short}
use Rattle.base.specs.RefusalLaws.{first_passed}
use Rattle.base.specs.declared.reasons.Reason.TheVariants as reason
use Rattle.text.specs.Answers.{room_verdict}

-- it fits
pub room_passed : (text : List ℕ) (room : ℕ) → length text ≤ room → room_verdict text room ≡ Ok tt
unfolding room_verdict first
room_passed text room h = rw (le-ltb _ _ h)

-- it does not
pub room_refused : (text : List ℕ) (room : ℕ) → room < length text
    → room_verdict text room ≡ Err (record { reason = reason.ShortOutput; place = length text })
unfolding room_verdict first
room_refused text room h = rw (lt-ltb _ _ h)

-- so a text that is not refused fits
pub room_fits : (text : List ℕ) (room : ℕ) → room_verdict text room ≡ Ok tt → length text ≤ room
unfolding room_verdict
room_fits text room e = ltb-false room (length text) ((first_passed (short (length text) room ∷ [])).0 e 0)

-- copied to the front, with zeros after it
pub given_front : (text o : List ℕ) → length text ≤ length o → cleared (length text) (splice 0 text o) ≡ lent (Ok tt) text o
given_front text o h =
    ap (cleared (length text)) (splice_fits 0 text o (omega arith) ∙ ap (λ (k : ℕ). text ++ drop k o) (zero-add (length text)))
    ∙ lent_front text o (length text) refl h
