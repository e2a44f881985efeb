-- What lines say of labels, one line after the other.
use Rattle.cmd_cues.proofs.Terms.{◌≡◌, ℕ, ◌&&◌, true, false, cond, List, [], ◌∷◌, ◌++◌}
use Rattle.cmd_cues.proofs.Terms.{refl, sym, ap, ◌∙◌, Option, Some}
use Rattle.cmd_cues.proofs.Terms.{None, option_to_list, unwrap_or, option_or, append-nil}
use Rattle.cmd_cues.proofs.Terms.{fold-append, is_word}
use Rattle.cmd_cues.proofs.Terms.{words_of, Reading, Record, Statement, Opens, Quiet, may_own}
use Rattle.cmd_cues.proofs.Terms.{desk_limits, record_opened, line_reading, Is, Silent, after}
use Rattle.cmd_cues.proofs.Terms.{same_record, Words, owner_after, owner_below, said_under}
use Rattle.cmd_cues.proofs.Terms.{begins_with_word, keyword_in, words_in, reading_is}
use Rattle.cmd_cues.proofs.Terms.{LabelKind, Text}
use Rattle.cmd_cues.proofs.Terms.{Comment, LabelLine, label_after, label_news_of, label_part}
use Rattle.cmd_cues.proofs.Terms.{last_label, names, AreOf, label_by, label_if, last_label_by}
use Rattle.cmd_cues.proofs.Terms.{line_news, news_in}
use Rattle.std.specs.Prelude.{codes}

-- ---- one line

-- one line more, that may say something
one_more : (r : Record) (kind : LabelKind) (old : List LabelLine) (said : Option LabelLine)
    → last_label_by r kind (old ++ option_to_list said)
    ≡ after (news_in r kind said) (last_label_by r kind old)
one_more r kind old None = ap (last_label_by r kind) (append-nil old)
one_more r kind old (Some line) =
    fold-append (λ before l. after (line_news r kind l) before) None old (line ∷ [])

-- what a line says of labels, and the labels that it leaves
pub next_labels : (above : List (List ℕ)) (line : List ℕ) (owner : Option Record) (s : Statement)
    (said : Option LabelLine) (old : List LabelLine)
    → owner ≡ owner_below desk_limits (words_in above)
    → s ≡ said_under desk_limits owner (words_of line)
    → ((r : Record) (kind : LabelKind) → news_in r kind said ≡ label_news_of r kind owner s line)
    → AreOf above old → AreOf (line ∷ above) (old ++ option_to_list said)
next_labels above line owner s said old owned says news are = λ r kind.
    one_more r kind old said
    ∙ ap (λ n. after n (last_label_by r kind old)) (news r kind)
    ∙ ap (after (label_news_of r kind owner s line)) (are r kind)
    ∙ ap (λ t. after (label_news_of r kind owner t line) (last_label r kind above)) says
    ∙ ap (λ o. after (label_news_of r kind o (said_under desk_limits o (words_of line)) line)
    (last_label r kind above)) owned

-- a CUE, SUB or GROUP line labels the record that it opens, by its comment
pub opening_news : (r q : Record) (kind : LabelKind) (owner : Option Record) (line : List ℕ)
    → label_if (same_record r q) kind Comment (label_part Comment line)
    ≡ label_news_of r kind owner (Opens q) line
opening_news r q Text owner line = refl
opening_news r q Comment owner line = refl

-- a TEXT line labels its owner
pub text_news : (r q : Record) (kind : LabelKind) (line : List ℕ)
    → begins_with_word (codes "text") (words_of line) ≡ true
    → label_if (same_record r q) kind Text (label_part Text line)
    ≡ label_news_of r kind (Some q) Quiet line
text_news r q Comment line is = refl
text_news r q Text line is =
    ap (λ b. cond (names r (cond b (Some q) None) && is_word (label_part Text line))
    (Is (label_part Text line)) Silent) (sym is)

-- another line without effect labels nothing
pub quiet_news : (r : Record) (kind : LabelKind) (owner : Option Record) (line : List ℕ)
    → begins_with_word (codes "text") (words_of line) ≡ false
    → news_in r kind None ≡ label_news_of r kind owner Quiet line
quiet_news r Comment owner line is = refl
quiet_news r Text owner line is =
    ap (λ b. cond (names r (cond b owner None) && is_word (label_part Text line))
    (Is (label_part Text line)) Silent) (sym is)

-- a line without words says nothing of labels
pub no_words : (r : Record) (kind : LabelKind) (owner : Option Record) (line : List ℕ)
    → words_of line ≡ [] → news_in r kind None ≡ label_news_of r kind owner Quiet line
no_words r Text (Some o) line none = rw none refl
no_words r Text None line none = rw none refl
no_words r Comment owner line none = refl

-- what is not read has no words
pub no_reading : (owner : Option Record) (l : Words)
    → None ≡ line_reading desk_limits owner l → l ≡ []
no_reading owner [] e = refl
no_reading owner (w ∷ l) e = cc

-- the owner below a line that was read
pub next_owner : (owner : Option Record) (l : Words) (reading : Reading)
    → Some reading ≡ line_reading desk_limits owner l
    → cond (may_own reading.keyword) (record_opened reading.statement) owner
    ≡ owner_after desk_limits l owner
next_owner owner [] reading e = cc
next_owner owner (w ∷ l) reading e =
    let read = reading_is owner (w ∷ l) reading e in
    ap (λ k. cond (may_own k) (record_opened reading.statement) owner) read.keyword
    ∙ ap (λ s. cond (may_own (keyword_in (w ∷ l))) (record_opened s) owner) read.statement

-- ---- every record

-- each record has the label that the lines give to it
pub all_labels : (lines : List (List ℕ)) (said : List LabelLine) → AreOf lines said
    → label_by said ≡ label_after lines
all_labels lines said are = λ i r.
    unwrap_or (option_or (are r Text i) (are r Comment i)) []
