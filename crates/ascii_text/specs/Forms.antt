-- The forms of words: what a word spells, or `None`.
use Rattle.std.specs.Prelude.{ℕ, ◌+◌, ◌*◌, ◌/◌, ◌^◌, Bool, ◌&&◌, ◌||◌, List, [], ◌∷◌}
use Rattle.std.specs.Prelude.{length, map, ◌==◌, nat_le, if◌then◌else◌, codes, bytes_eq}
use Rattle.std.specs.Prelude.{Option, Some, None, option_map, option_and_then}
use Rattle.std.specs.List.{list_all, list_any, before_first, after_first}
use Rattle.std.specs.Option.{option_or}
use Rattle.std.specs.Char.{is_ascii_digit, is_ascii_hexdigit, to_ascii_lowercase}
use Rattle.std.specs.Str.Parse.{digits_value}

-- equal without ASCII case
abbrev pub same_word : List ℕ → List ℕ → Bool
same_word word keyword = bytes_eq (map to_ascii_lowercase word) (map to_ascii_lowercase keyword)

-- least to most bytes, each of which passes the test
abbrev pub is_run : (ℕ → Bool) → ℕ → ℕ → List ℕ → Bool
is_run test least most word = (nat_le least (length word) && nat_le (length word) most)
    && list_all test word

-- the number that 1 to most digits spell
abbrev pub digits_of : ℕ → List ℕ → Option ℕ
digits_of most word = if is_run is_ascii_digit 1 most word then Some (digits_value 10 word) else
    None

-- a number: 1 to 9 digits, zeros in front included
abbrev pub number_of : List ℕ → Option ℕ
number_of = digits_of 9

-- a moment: 1 to 15 digits
abbrev pub moment_of : List ℕ → Option ℕ
moment_of = digits_of 15

-- a number that is at most max
abbrev pub whole_of : ℕ → List ℕ → Option ℕ
whole_of max word = option_and_then (λ n. if nat_le n max then Some n else None) (number_of word)

-- a level as a percentage, rounded to the nearest byte
abbrev pub percent_of : List ℕ → Option ℕ
percent_of word = option_map (λ p. (p * 255 + 50) / 100) (whole_of 100 word)

-- a level at full: FL or FF
abbrev pub full_of : List ℕ → Option ℕ
full_of word = if same_word word (codes "fl") || same_word word (codes "ff") then Some 255 else None

-- the value of one hex digit
abbrev pub hex_digit_of : ℕ → Option ℕ
hex_digit_of b = if is_ascii_hexdigit b then Some (digits_value 16 (b ∷ [])) else None

-- a level in hex: H and 1 or 2 hex digits
abbrev pub hex_of : List ℕ → Option ℕ
hex_of [] = None
hex_of (h ∷ ds) =
    if (to_ascii_lowercase h == 104) && is_run is_ascii_hexdigit 1 2 ds then Some
    (digits_value 16 ds) else None

-- a level: one of the three spellings, of which a word has one at most
abbrev pub level_of : List ℕ → Option ℕ
level_of word = option_or (percent_of word) (option_or (full_of word) (hex_of word))

-- the point before a fraction
abbrev pub is_point : ℕ → Bool
is_point b = b == 46

-- the colon between minutes and seconds
abbrev pub is_colon : ℕ → Bool
is_colon b = b == 58

-- thousandths of the part before a point: none where it has no digits, else those of a number at
-- most max
abbrev pub units_of : ℕ → List ℕ → Option ℕ
units_of max [] = Some 0
units_of max (b ∷ bs) = option_map (λ n. n * 1000) (whole_of max (b ∷ bs))

-- thousandths of the 1 to `places` digits behind a point
abbrev pub fraction_of : ℕ → List ℕ → Option ℕ
fraction_of places word = option_map (λ n. n * 1000 / 10 ^ length word) (digits_of places word)

-- the sum of two numbers, where both are there
abbrev pub sum_of : Option ℕ → Option ℕ → Option ℕ
sum_of a b = option_and_then (λ m. option_map (λ n. m + n) b) a

-- thousandths of `I`, `I.F` or `.F`, where I is a number at most max and F has 1 to `places` digits
abbrev pub scaled_of : ℕ → ℕ → List ℕ → Option ℕ
scaled_of max places word =
    if list_any is_point word
    then sum_of (units_of max (before_first is_point word))
    (fraction_of places (after_first is_point word))
    else option_map (λ n. n * 1000) (whole_of max word)

-- a cue number in thousandths: up to 9999 and three places, and not zero
abbrev pub cue_number_of : List ℕ → Option ℕ
cue_number_of word = option_and_then (λ n. if n == 0 then None else Some n) (scaled_of 9999 3 word)

-- milliseconds of the seconds behind a colon, `X` or `X.F`, where X has 1 or 2 digits of value at
-- most 59
abbrev pub seconds_of : List ℕ → Option ℕ
seconds_of word =
    let digits = length (before_first is_point word) in
    if nat_le 1 digits && nat_le digits 2 then scaled_of 59 2 word else None

-- a time in milliseconds: seconds up to 5999, or minutes up to 99, a colon and seconds; two places
-- at most
abbrev pub time_of : List ℕ → Option ℕ
time_of word =
    if list_any is_colon word
    then sum_of (option_map (λ m. m * 60000) (whole_of 99 (before_first is_colon word)))
    (seconds_of (after_first is_colon word))
    else scaled_of 5999 2 word
