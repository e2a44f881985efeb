-- What is written is read back.
use Rattle.std.proofs.Common.{◌≡◌, ◌∙◌, ◌≤◌, ◌<◌, ◌-◌, ◌^◌, ◌++◌, ℕ, List, [], ◌∷◌, length}
use Rattle.std.proofs.Common.{sym, ap, ap₂, refl}
use Rattle.std.proofs.Common.{arith, true, zero, suc, Option, Some, None, All, inl, codes, get_or}
use Rattle.std.proofs.Common.{append_assoc, length-append, ◌*◌, le-leb, eq-eqb, ne_eqb, take, drop}
use Rattle.std.specs.Prelude.{decimal}
use Rattle.std.specs.List.{list_all, position_or_len}
use Rattle.std.specs.Char.{is_ascii_digit}
use Rattle.std.proofs.lemmas.List.{take_at, drop_at, get_or_append_left, get_or-append_right}
use Rattle.std.proofs.lemmas.List.Sums.{position_or_len_is}
use Rattle.std.proofs.lemmas.Str.Parse.{numerals_by_value, tells_all_ascii_digits, tells_by_index}
use Rattle.std.proofs.lemmas.Fmt.{decimal_nonempty, digits_decimal, digits_value-decimal}
use Rattle.std.proofs.lemmas.Fmt.{length-decimal-le}
use Rattle.hex.specs.Hex.{IsBytes, encode_lower, lower_digits}
use Rattle.hex.proofs.HexLemmas.{decode_sized-encode_lower, length-encode_with}
use Rattle.uuid.specs.Text.{hyphenated_text, lower}
use Rattle.uuid.proofs.TextLemmas.{by_index_length}
use Rattle.uuid.proofs.RoundTrips.{parses_hyphenated}
use Rattle.ascii_text.specs.Forms.{whole_of}
use Rattle.night_record.specs.Head.{IsHead, head_text, name_of}
use Rattle.night_record.specs.Reading.{before_comma, behind_comma, is_comma, head_at_places}
use Rattle.night_record.specs.Reading.{with_name_and_start}
use Rattle.night_record.specs.Reading.{hex_answer, head_with, show_of, started_of}
use Rattle.night_record.specs.declared.head.RecordHead.{RecordHead}

-- what is never found is `None`
pub none_unless_found : {X : Type 0} (o : Option X) → (((x : X) × (o ≡ Some x)) → ⊥) → None ≡ o
none_unless_found None never = refl
none_unless_found (Some x) never = absurd (never (x, refl))

-- the digits of a number end at the comma behind them
comma_at : (n : ℕ) (rest : List ℕ) → n < 2 ^ 64
    → position_or_len is_comma (decimal n ++ 44 ∷ rest) ≡ length (decimal n)
comma_at n rest fits =
    let ds : List ℕ = decimal n in
    let end : ℕ = length ds in
    let back : List ℕ = 44 ∷ rest in
    let digits = digits_decimal (numerals_by_value _ tells_by_index) n fits in
    let first : end - end ≡ 0 = omega arith in
    let comma : get_or (ds ++ back) end 0 ≡ 44 =
    get_or-append_right ds back end end 0 refl (omega arith)
    ∙ ap (λ i. get_or back i 0) first in
    position_or_len_is is_comma (ds ++ back) end 0 (omega (arith, length-append ds back))
    (λ k lt. ne_eqb (get_or (ds ++ back) k 0) 44
    (λ e. omega (arith, digits k lt, get_or_append_left ds back 0 k lt, e)))
    (λ lt. eq-eqb (get_or (ds ++ back) end 0) 44 comma)

before : (n : ℕ) (rest : List ℕ) → n < 2 ^ 64
    → before_comma (decimal n ++ 44 ∷ rest) ≡ decimal n
before n rest fits = ap (λ i. take i (decimal n ++ 44 ∷ rest)) (comma_at n rest fits)
    ∙ take_at (decimal n) (44 ∷ rest) (length (decimal n)) refl

behind : (n : ℕ) (word rest : List ℕ) → n < 2 ^ 64 → length word ≡ 6
    → behind_comma (decimal n ++ 44 ∷ (word ++ rest)) ≡ rest
behind n word rest fits six =
    let text : List ℕ = decimal n ++ 44 ∷ (word ++ rest) in
    let seven : length (44 ∷ word) ≡ 7 = omega (arith, six) in
    let at : drop (position_or_len is_comma text) text ≡ 44 ∷ (word ++ rest) =
    ap (λ i. drop i text) (comma_at n (word ++ rest) fits)
    ∙ drop_at (decimal n) (44 ∷ (word ++ rest)) (length (decimal n)) refl in
    let past : drop 7 (44 ∷ (word ++ rest)) ≡ rest = drop_at (44 ∷ word) rest 7 seven in
    ap (drop 7) at ∙ past

-- a number that is written is read
whole_decimal : (max n : ℕ) → n ≤ max → n < 10 ^ 5 → whole_of max (decimal n) ≡ Some n
whole_decimal max n within small =
    let fits : n < 2 ^ 64 = omega (arith, small) in
    let digits : list_all is_ascii_digit (decimal n) ≡ true =
    digits_decimal (numerals_by_value _ tells_all_ascii_digits) n fits in
    rw (
      le-leb 1 (length (decimal n)) (decimal_nonempty n fits),
      le-leb (length (decimal n)) 9 (omega (arith, length-decimal-le 5 n (omega arith) small fits)),
      digits,
      digits_value-decimal (numerals_by_value _ tells_all_ascii_digits) n fits,
      le-leb n max within,
    ) refl

bytes_at : (xs : List ℕ) → All (λ byte. byte < 256) xs → IsBytes xs
bytes_at [] all i = omega arith
bytes_at (y ∷ ys) all zero = all 0 0 (omega arith)
bytes_at (y ∷ ys) all (suc i) = bytes_at ys (λ k d lt. all (suc k) d (omega (arith, lt))) i

-- ---- a head

show_back : (show : List ℕ) → length show ≡ 32 → All (λ byte. byte < 256) show
    → show_of (encode_lower show) ≡ Some show
show_back show long all =
    ap hex_answer (decode_sized-encode_lower show 32 long (bytes_at show all))

name_back : (name : List ℕ) → length name ≤ 63 → name_of name ≡ Some name
name_back name room = rw (le-leb (length name) 63 room) refl

started_back : (started : List ℕ) → length started ≡ 24 → started_of started ≡ Some started
started_back started long = rw (eq-eqb (length started) 24 long) refl

named_back : (with_parts : Option (List ℕ) → Option (List ℕ) → Option RecordHead)
    (name started : List ℕ) → length name ≤ 63 → length started ≡ 24
    → with_name_and_start with_parts (name ++ (codes ", started " ++ started))
    ≡ with_parts (Some name) (Some started)
named_back with_parts name started room long =
    let rest : List ℕ = codes ", started " ++ started in
    let text : List ℕ = name ++ rest in
    let n : ℕ = length text - 34 in
    let back : length rest ≡ 34 =
    omega (arith, length-append (codes ", started ") started, long) in
    let is : n ≡ length name = omega (arith, length-append name rest, back) in
    let front : take n text ≡ name =
    ap (λ k. take k text) is ∙ take_at name rest (length name) refl in
    let last : drop 10 (drop n text) ≡ started =
    ap (λ k. drop 10 (drop k text)) is ∙ ap (drop 10) (drop_at name rest (length name) refl)
    ∙ drop_at (codes ", started ") started 10 refl in
    let named_is : name_of (take n text) ≡ Some name = ap name_of front ∙ name_back name room in
    let started_is : started_of (drop 10 (drop n text)) ≡ Some started =
    ap started_of last ∙ started_back started long in
    ap₂ with_parts named_is started_is

-- the text of a head, a part at a time
abbrev parts_of : RecordHead → List ℕ
parts_of head = codes "! cueplayer record 1: show " ++ (encode_lower head.show
    ++ (codes "\n! cid " ++ (hyphenated_text lower head.cid
    ++ (codes ", priority " ++ (decimal head.priority
    ++ (codes ", base " ++ (decimal head.base
    ++ (codes ", name " ++ (head.name ++ (codes ", started " ++ head.started))))))))))

in_parts : (head : RecordHead) → head_text head ≡ parts_of head
in_parts head = simp append_assoc refl

-- a part of a known length behind a word, and what is behind it
past : (word part rest : List ℕ) (m n : ℕ) → length word ≡ m → length part ≡ n
    → (take n (drop m (word ++ (part ++ rest))) ≡ part)
    × (drop n (drop m (word ++ (part ++ rest))) ≡ rest)
past word part rest m n word_is part_is =
    let at : drop m (word ++ (part ++ rest)) ≡ part ++ rest =
    drop_at word (part ++ rest) m word_is in
    (ap (take n) at ∙ take_at part rest n part_is, ap (drop n) at ∙ drop_at part rest n part_is)

read_back : (head : RecordHead) → IsHead head → head_at_places (head_text head) ≡ Some head
read_back head is =
    let named_text : List ℕ = head.name ++ (codes ", started " ++ head.started) in
    let base_text : List ℕ = decimal head.base ++ (codes ", name " ++ named_text) in
    let numbers : List ℕ = decimal head.priority ++ (codes ", base " ++ base_text) in
    let cid_text : List ℕ = hyphenated_text lower head.cid ++ (codes ", priority " ++ numbers) in
    let line : List ℕ = head_text head in
    let digits : List ℕ = drop 27 line in
    let shown = past (codes "! cueplayer record 1: show ") (encode_lower head.show)
    (codes "\n! cid " ++ cid_text) 27 64 refl
    (length-encode_with lower_digits head.show ∙ ap (λ k. 2 * k) is.0.0) in
    let show_text : take 64 digits ≡ encode_lower head.show =
    ap (λ l. take 64 (drop 27 l)) (in_parts head) ∙ shown.0 in
    let sent = past (codes "\n! cid ") (hyphenated_text lower head.cid)
    (codes ", priority " ++ numbers) 7 36 refl (by_index_length 36 _) in
    let cid : List ℕ = drop 7 (drop 64 digits) in
    let cid_is : cid ≡ drop 7 (codes "\n! cid " ++ cid_text) =
    ap (λ l. drop 7 (drop 64 (drop 27 l))) (in_parts head) ∙ ap (drop 7) shown.1 in
    let cid_read : take 36 cid ≡ hyphenated_text lower head.cid = ap (take 36) cid_is ∙ sent.0 in
    let priority : List ℕ = drop 11 (drop 36 cid) in
    let priority_is : priority ≡ numbers =
    ap (λ l. drop 11 (drop 36 l)) cid_is ∙ ap (drop 11) sent.1
    ∙ drop_at (codes ", priority ") numbers 11 refl in
    let small : head.priority < 2 ^ 64 = omega (arith, is.2) in
    let fits : head.base < 2 ^ 64 = omega (arith, is.3) in
    let priority_read : whole_of 255 (before_comma priority) ≡ Some head.priority =
    ap (λ l. whole_of 255 (before_comma l)) priority_is
    ∙ ap (whole_of 255) (before head.priority (codes " base " ++ base_text) small)
    ∙ whole_decimal 255 head.priority (omega (arith, is.2)) (omega (arith, is.2)) in
    let base : List ℕ = behind_comma priority in
    let base_is : base ≡ base_text = ap behind_comma priority_is
    ∙ behind head.priority (codes " base ") base_text small refl in
    let base_read : whole_of 65535 (before_comma base) ≡ Some head.base =
    ap (λ l. whole_of 65535 (before_comma l)) base_is
    ∙ ap (whole_of 65535) (before head.base (codes " name " ++ named_text) fits)
    ∙ whole_decimal 65535 head.base (omega (arith, is.3)) (omega (arith, is.3)) in
    let name_is : behind_comma base ≡ named_text = ap behind_comma base_is
    ∙ behind head.base (codes " name ") named_text fits refl in
    rw (show_text, cid_read, priority_read, base_read, name_is)
    (rw (
      show_back head.show is.0.0 is.0.1,
      sym (parses_hyphenated lower head.cid (inl refl) is.1.0 is.1.1),
    )
    (named_back (head_with (Some head.show) (Some head.cid) (Some head.priority) (Some head.base))
    head.name head.started is.4 is.5))

pub head_there : (line : List ℕ) (head : RecordHead) → IsHead head → head_text head ≡ line
    → head_at_places line ≡ Some head
head_there line head is spelled = ap head_at_places (sym spelled) ∙ read_back head is
