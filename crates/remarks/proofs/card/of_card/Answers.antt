use Rattle.std.proofs.Common.{◌≡◌, ◌∙◌, ◌++◌, List, ℕ, ap, flat_map, take}
use Rattle.std.specs.List.{list_all}
use Rattle.network_tables.specs.Tables.{is_known}
use Rattle.remarks.specs.Cards.{address_word, choices, refusal_parts}
use Rattle.remarks.specs.Remarks.{excerpt, remark_of, shown_name}
use Rattle.remarks.proofs.Choices.{remark_more}
use Rattle.remarks.proofs.card.of_card.Goals as goal

pub returns : goal.returns
returns c =
    let rows = c.args.cards.now.rows.items in
    let name = shown_name c.args.named.now in
    let address = address_word (list_all (λ card. is_known card.name) rows) in
    let parts = λ (n a : List ℕ). refusal_parts c.args.refusal n a c.args.down in
    let told : List ℕ = c.of_refusal-remark.result.items in
    let front : told ≡ remark_of (parts name address) =
    c.of_refusal-remark.ensures
    ∙ ap (λ n. remark_of (parts n c.address_word-address.result.now))
    (c.as_str.ensures.value ∙ c.of_name-shown.ensures.text)
    ∙ ap (λ a. remark_of (parts name a))
    (c.address_word-address.ensures ∙ ap address_word c.are_known.ensures) in
    c.push_choices.ensures
    ∙ ap (λ l. take 512 (told ++ flat_map excerpt (choices l))) c.as_slice.ensures
    ∙ ap (λ l. take 512 (l ++ flat_map excerpt (choices rows))) front
    ∙ remark_more (parts name address) (choices rows)
