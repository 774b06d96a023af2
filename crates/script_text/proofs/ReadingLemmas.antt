-- Places one after the other.
use Rattle.std.proofs.Common.{◌≡◌, ℕ, Bool, List, [], ◌∷◌, ◌++◌, refl, sym, ap, ◌∙◌}
use Rattle.script_text.specs.OutputForm.{call_form, entry_form, open_form, reply_form}
use Rattle.script_text.specs.OutputPlace.{NumberDue, Place, Reading, behind_all, past, number_in, past_all, rest}
use Rattle.script_text.specs.declared.out_lines.OutLine.TheVariants.{Entry}
use Rattle.script_text.specs.declared.out_lines.ReplyText.{ReplyText}
use Rattle.script_text.specs.declared.scripts.CallText.{CallText}

pub past_all-append : (places more : List Place) (reading : Reading) → past_all (places ++ more) reading ≡ past_all more (past_all places reading)
past_all-append [] more reading = refl
past_all-append (place ∷ places) more reading = past_all-append places more (past place reading)

pub past_all-words : (places : List Place) (reading : Reading) → (past_all places reading).words ≡ behind_all places reading.words
past_all-words [] reading = refl
past_all-words (place ∷ places) reading = past_all-words places (past place reading)

-- the five parts of an entry
pub entry_parts : (r s1 s2 s3 s4 s5 : Reading) → s1 ≡ past NumberDue r → s2 ≡ past NumberDue s1 → s3 ≡ past_all (call_form s2.words).places s2
    → s4 ≡ past_all (reply_form s3.words).places s3 → s5 ≡ past_all (open_form s4.words).places s4 → s5 ≡ past_all (entry_form r.words).places r
entry_parts r s1 s2 s3 s4 s5 a b c d e =
    let r2 : Reading = past NumberDue (past NumberDue r) in
    let calls : List Place = (call_form r2.words).places in
    let r3 : Reading = past_all calls r2 in
    let w3 : r3.words ≡ behind_all calls r2.words = past_all-words calls r2 in
    let replies : List Place = (reply_form (behind_all calls r2.words)).places in
    let r4 : Reading = past_all replies r3 in
    let w4 : r4.words ≡ behind_all replies (behind_all calls r2.words) = past_all-words replies r3 ∙ ap (behind_all replies) w3 in
    let marks : List Place = (open_form (behind_all replies (behind_all calls r2.words))).places in
    let e2 : s2 ≡ r2 = b ∙ ap (past NumberDue) a in
    let e3 : s3 ≡ r3 = c ∙ ap (λ (s : Reading). past_all (call_form s.words).places s) e2 in
    let e4 : s4 ≡ r4 = d ∙ ap (λ (s : Reading). past_all (reply_form s.words).places s) e3 ∙ ap (λ ws. past_all (reply_form ws).places r3) w3 in
    let e5 : s5 ≡ past_all marks r4 = e ∙ ap (λ (s : Reading). past_all (open_form s.words).places s) e4 ∙ ap (λ ws. past_all (open_form ws).places r4) w4 in
    e5 ∙ sym (past_all-append replies marks r3) ∙ sym (past_all-append calls (replies ++ marks) r2)

-- what they mean
pub entry_words : (r s1 s2 s3 s4 : Reading) → s1 ≡ past NumberDue r → s2 ≡ past NumberDue s1 → s3 ≡ past_all (call_form s2.words).places s2
    → s4 ≡ past_all (reply_form s3.words).places s3
    → (s2.words ≡ rest (rest r.words)) × (s3.words ≡ behind_all (call_form (rest (rest r.words))).places (rest (rest r.words)))
    × (s4.words ≡ behind_all (reply_form (behind_all (call_form (rest (rest r.words))).places (rest (rest r.words)))).places (behind_all (call_form (rest (rest r.words))).places (rest (rest r.words))))
entry_words r s1 s2 s3 s4 a b c d =
    let r2 : Reading = past NumberDue (past NumberDue r) in
    let calls : List Place = (call_form r2.words).places in
    let r3 : Reading = past_all calls r2 in
    let w3 : r3.words ≡ behind_all calls r2.words = past_all-words calls r2 in
    let replies : List Place = (reply_form (behind_all calls r2.words)).places in
    let r4 : Reading = past_all replies r3 in
    let w4 : r4.words ≡ behind_all replies (behind_all calls r2.words) = past_all-words replies r3 ∙ ap (behind_all replies) w3 in
    let e2 : s2 ≡ r2 = b ∙ ap (past NumberDue) a in
    let e3 : s3 ≡ r3 = c ∙ ap (λ (s : Reading). past_all (call_form s.words).places s) e2 in
    let e4 : s4 ≡ r4 = d ∙ ap (λ (s : Reading). past_all (reply_form s.words).places s) e3 ∙ ap (λ ws. past_all (reply_form ws).places r3) w3 in
    (ap (λ (s : Reading). s.words) e2, ap (λ (s : Reading). s.words) e3 ∙ w3, ap (λ (s : Reading). s.words) e4 ∙ w4)

pub entry_means : (r s1 s2 s3 s4 : Reading) (client number : ℕ) (call : CallText) (reply : ReplyText) (unreturned : Bool) → s1 ≡ past NumberDue r → s2 ≡ past NumberDue s1
    → s3 ≡ past_all (call_form s2.words).places s2 → s4 ≡ past_all (reply_form s3.words).places s3 → client ≡ number_in r.words → number ≡ number_in s1.words
    → call ≡ (call_form s2.words).means → reply ≡ (reply_form s3.words).means → unreturned ≡ (open_form s4.words).means
    → Entry client number call reply unreturned ≡ (entry_form r.words).means
entry_means r s1 s2 s3 s4 client number call reply unreturned a b c d client_is number_is call_is reply_is mark_is =
    let words = entry_words r s1 s2 s3 s4 a b c d in
    let number_is2 : number ≡ number_in (rest r.words) = number_is ∙ ap (λ (s : Reading). number_in s.words) a in
    let call_is2 = call_is ∙ ap (λ ws. (call_form ws).means) words.0 in
    let reply_is2 = reply_is ∙ ap (λ ws. (reply_form ws).means) words.1 in
    let mark_is2 = mark_is ∙ ap (λ ws. (open_form ws).means) words.2 in
    rw (client_is, number_is2, call_is2, reply_is2, mark_is2) refl
