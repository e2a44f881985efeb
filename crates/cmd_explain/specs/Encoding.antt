-- How a show text is encoded, and what a file seems to be that is no text.
use Rattle.std.specs.Prelude.{ℕ, ◌==◌, ◌&&◌, ◌||◌, not, Bool, if◌then◌else◌, List, [], ◌∷◌, ◌++◌}
use Rattle.std.specs.Prelude.{Option, Some, None, codes, take}
use Rattle.std.specs.List.{list_any, starts_with}
use Rattle.std.specs.Option.{option_or}
use Rattle.cmd_explain.specs.LineNotes.{note_line}

abbrev pub begins_with : List ℕ → List ℕ → Bool
begins_with bytes front = starts_with (λ a b. a == b) bytes front

abbrev pub has_byte : ℕ → List ℕ → Bool
has_byte byte bytes = list_any (λ b. b == byte) bytes

-- ---- notes

-- a byte order mark of UTF-8
abbrev pub has_mark : List ℕ → Bool
has_mark text = begins_with text (239 ∷ 187 ∷ 191 ∷ [])

-- a mark of UTF-16, or a zero in the first character, as all ASCII has in UTF-16
abbrev pub is_utf_16 : List ℕ → Bool
is_utf_16 text =
    begins_with text (255 ∷ 254 ∷ []) || begins_with text (254 ∷ 255 ∷ [])
    || has_byte 0 (take 2 text)

-- lines that end in CR alone: there is a CR, and no LF
abbrev pub has_cr_alone : List ℕ → Bool
has_cr_alone text = has_byte 13 text && not (has_byte 10 text)

-- a note, where it applies
abbrev pub note_if : Bool → List ℕ → List ℕ
note_if applies note = if applies then note_line note else []

abbrev pub mark_text : List ℕ
mark_text =
    codes "the file begins with a byte order mark, read as part of its first word: save it as ASCII"

abbrev pub utf_16_text : List ℕ
utf_16_text = codes "the file is UTF-16, which is not read as text: save it as ASCII"

abbrev pub cr_text : List ℕ
cr_text =
    codes "the file's lines end in CR alone, so that it is one line: save it with LF or CR LF"

-- the notes on how a text is encoded
unfoldable pub encoding_notes : List ℕ → List ℕ
encoding_notes text =
    note_if (has_mark text) mark_text ++ note_if (is_utf_16 text) utf_16_text
    ++ note_if (has_cr_alone text) cr_text

-- ---- files that are no text

-- how such files begin, and what they are
abbrev pub beginnings : List (List ℕ × List ℕ)
beginnings =
    (255 ∷ 254 ∷ [], codes "text in UTF-16")
    ∷ (254 ∷ 255 ∷ [], codes "text in UTF-16")
    ∷ (137 ∷ 80 ∷ 78 ∷ 71 ∷ 13 ∷ 10 ∷ 26 ∷ 10 ∷ [], codes "a picture (PNG)")
    ∷ (255 ∷ 216 ∷ 255 ∷ [], codes "a picture (JPEG)")
    ∷ (codes "GIF8", codes "a picture (GIF)")
    ∷ (codes "%PDF-", codes "a document (PDF)")
    ∷ (80 ∷ 75 ∷ 3 ∷ 4 ∷ [], codes "an archive (ZIP)")
    ∷ (31 ∷ 139 ∷ [], codes "an archive (gzip)") ∷ []

-- what a file is that begins so
abbrev pub kind_in : List (List ℕ × List ℕ) → List ℕ → Option (List ℕ)
kind_in [] file = None
kind_in (b ∷ rest) file = if begins_with file b.0 then Some b.1 else kind_in rest file

-- what it is by a NUL, which no text has: one in the first two bytes is that of UTF-16
abbrev pub kind_by_nul : List ℕ → Option (List ℕ)
kind_by_nul file =
    if has_byte 0 (take 2 file) then Some (codes "text in UTF-16")
    else (if has_byte 0 file then Some (codes "data that is no text") else None)

-- what a file seems to be whose first 512 bytes are no text
abbrev pub likely_kind : List ℕ → Option (List ℕ)
likely_kind file = option_or (kind_in beginnings (take 512 file)) (kind_by_nul (take 512 file))
