use Rattle.std.proofs.Common.{◌≡◌, ℕ, List, [], ◌∷◌, ◌++◌, ◌∙◌, codes, map, ap, sym, append_assoc}
use Rattle.std.proofs.lemmas.List.{map-append}
use Rattle.std.specs.Fmt.{decimal}
use Rattle.script_text.specs.Lent.{call_lent, reply_lent}
use Rattle.script_text.specs.OutputPart.{call_parts, fixed, part_text, reply_parts}
use Rattle.script_text.specs.OutputText.{spaced}
use Rattle.script_text.proofs.SpacedLemmas.{spaced-append}
use Rattle.script_text.proofs.short_lines.put_entry.Goals as goal

-- a name, two words, and three pieces of words
three_pieces : (name first second : List ℕ) (xs ys zs : List (List ℕ))
    → (((((name ++ spaced (first ∷ [])) ++ spaced (second ∷ [])) ++ spaced xs) ++ spaced ys) ++ spaced zs)
    ≡ name ++ spaced (first ∷ second ∷ (xs ++ (ys ++ zs)))
three_pieces name first second xs ys zs =
    append_assoc (((name ++ spaced (first ∷ [])) ++ spaced (second ∷ [])) ++ spaced xs) (spaced ys) (spaced zs)
    ∙ append_assoc ((name ++ spaced (first ∷ [])) ++ spaced (second ∷ [])) (spaced xs) (spaced ys ++ spaced zs)
    ∙ append_assoc (name ++ spaced (first ∷ [])) (spaced (second ∷ [])) (spaced xs ++ (spaced ys ++ spaced zs))
    ∙ append_assoc name (spaced (first ∷ [])) (spaced (second ∷ []) ++ (spaced xs ++ (spaced ys ++ spaced zs)))
    ∙ ap (λ l. name ++ (spaced (first ∷ []) ++ (spaced (second ∷ []) ++ (spaced xs ++ l)))) (sym (spaced-append ys zs))
    ∙ ap (λ l. name ++ (spaced (first ∷ []) ++ (spaced (second ∷ []) ++ l))) (sym (spaced-append xs (ys ++ zs)))
    ∙ ap (λ l. name ++ (spaced (first ∷ []) ++ l)) (sym (spaced-append (second ∷ []) (xs ++ (ys ++ zs))))
    ∙ ap (λ l. name ++ l) (sym (spaced-append (first ∷ []) (second ∷ (xs ++ (ys ++ zs)))))

pub returns-then-unreturned-clause-text : goal.returns-then-unreturned-clause-text
returns-then-unreturned-clause-text c =
    let call = call_parts (call_lent c.args.call) in
    let reply = reply_parts (reply_lent c.args.reply) in
    rw (
      c.put_text.ensures.text,
      c.put_reply.ensures.text,
      c.put_call.ensures.text,
      c.put_number-2.ensures.text,
      c.put_number.ensures.text,
      c.push.ensures.items,
      c.requires.empty,
      c.if-unreturned.true,
      map-append part_text call (reply ++ fixed (codes "open") ∷ []),
      map-append part_text reply (fixed (codes "open") ∷ []),
    )
    (three_pieces (codes "h") (decimal c.args.client) (decimal c.args.number) (map part_text call) (map part_text reply) (codes "open" ∷ []))
