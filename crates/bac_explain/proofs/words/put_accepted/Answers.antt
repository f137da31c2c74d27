use Rattle.std.specs.Prelude.{codes}
use Rattle.std.proofs.Common.{◌≡◌, ◌/◌, ◌%◌, ◌++◌, List, ℕ, take, ap, ◌∙◌, append_assoc}
use Rattle.bac_explain.specs.Words.{segments_words, apdu_words}
use Rattle.bac_explain.proofs.words.put_accepted.Goals as goal

-- one, another, and a third
three : (front a b d : List ℕ) {new second first : List ℕ} → new ≡ second ++ d → second ≡ first ++ b → first ≡ front ++ a → new ≡ front ++ ((a ++ b) ++ d)
three front a b d last next one =
    last ∙ ap (λ l. l ++ d) (next ∙ ap (λ l. l ++ b) one ∙ append_assoc front a b) ∙ append_assoc front (a ++ b) d

pub returns-clause-text : goal.returns-clause-text
returns-clause-text c =
    let segments = segments_words (c.args.octet / 16 % 8) in
    let next = c.put_octets-end.ensures.text ∙ ap (λ l. take c.put_word-end.result c.put_word-end.new.room ++ l) c.segments_words.ensures.words in
    three (take c.args.at c.args.room.now) (codes "segments accepted: ") segments (apdu_words (c.args.octet % 16)) c.put_longest.ensures.text next c.put_word-end.ensures.text
