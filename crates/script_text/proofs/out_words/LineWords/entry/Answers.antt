use Rattle.script_text.proofs.ReadingLemmas.{entry_means, entry_parts}
use Rattle.script_text.proofs.out_words.LineWords.entry.Goals as goal

pub returns-clause-past : goal.returns-clause-past
returns-clause-past c =
    entry_parts _ _ _ _ _ _ c.number-client.ensures.past c.number-number.ensures.past c.in_ok-call.ensures.past c.in_ok-reply.ensures.past c.open_mark-unreturned.ensures.past

pub returns-clause-means : goal.returns-clause-means
returns-clause-means c =
    entry_means _ _ _ _ _ _ _ _ _ _ c.number-client.ensures.past c.number-number.ensures.past c.in_ok-call.ensures.past c.in_ok-reply.ensures.past
    c.number-client.ensures.value c.number-number.ensures.value c.in_ok-call.ensures.means c.in_ok-reply.ensures.means c.open_mark-unreturned.ensures.means
