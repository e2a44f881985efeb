-- The bytes of a stray are no more than the line that spells them, and no other event is a stray.
use Rattle.std.proofs.Common.{◌≡◌, ℕ, ◌≤◌, Bool, true, false, List, [], ◌∷◌, length}
use Rattle.std.proofs.Common.{refl, arith}
use Rattle.std.specs.Prelude.{if◌then◌else◌, Option, Some, None, option_map, option_and_then}
use Rattle.std.specs.Prelude.{Result, Ok, Err, codes}
use Rattle.hex.specs.Hex.{decode_of}
use Rattle.hex.specs.declared.error.FromHexError.{FromHexError}
use Rattle.hex.proofs.HexLemmas.{decode_of-ok}
use Rattle.ascii_text.specs.Text.{words_of}
use Rattle.ascii_text.specs.Forms.{same_word, moment_of, whole_of}
use Rattle.uuid.specs.Text.{parsed}
use Rattle.console.specs.Spelling.{instruction_of}
use Rattle.wire_world.specs.declared.happening.Occurrence.{Occurrence}
use Rattle.cmd_rehearse.specs.declared.said.Said.{Said}
use Rattle.cmd_rehearse.specs.declared.said.Said.TheVariants.{Nothing, Console, Receiver, Happens}
use Rattle.cmd_rehearse.specs.declared.said.Said.TheVariants.{Stray, Malformed}
use Rattle.cmd_rehearse.specs.Forms.{universe_of, place_of, hex_bytes, decode_answer, digits_in}
use Rattle.cmd_rehearse.specs.Said.{console_with, receiver_with, header, order_with, tick_with}
use Rattle.cmd_rehearse.specs.Said.{deliver_with, stray_with, show_with, event_with, form_with}
use Rattle.cmd_rehearse.specs.Said.{script_line, or_malformed, delivery_with, at}
use Rattle.cmd_rehearse.specs.Script.{IsRange}
use Rattle.cmd_rehearse.proofs.Sizes.{sizes, words-size}

-- the bytes that were decoded
abbrev size_of : Option (List ℕ) → ℕ
size_of None = 0
size_of (Some bytes) = length bytes

decoded-size : (word : List ℕ) (r : Result (List ℕ) FromHexError) → decode_of word ≡ r
    → size_of (decode_answer r) ≤ length word
decoded-size word (Ok bytes) is = let h = decode_of-ok word bytes is in omega (arith, h.2)
decoded-size word (Err e) is = omega arith

bytes-size : (word : List ℕ) → size_of (hex_bytes word) ≤ length word
bytes-size word = decoded-size word (decode_of word) refl

digits-size : (words : List (List ℕ))
    → size_of (option_and_then hex_bytes (digits_in words)) ≤ sizes words
digits-size [] = bytes-size []
digits-size (digits ∷ []) = let h = bytes-size digits in omega (arith, h)
digits-size (digits ∷ word ∷ rest) = omega arith

-- a stray has at most n bytes, and no other event is a stray
abbrev pub Fits : ℕ → Said → Type 0
Fits n (Stray moment receiver bytes) = length bytes ≤ n
Fits n (Happens event) = IsRange 0 event.what
Fits n (Console setup) = Unit {0}
Fits n (Receiver universe) = Unit {0}
Fits n Nothing = Unit {0}
Fits n Malformed = Unit {0}

abbrev FitsIn : ℕ → Option Said → Type 0
FitsIn n None = Unit {0}
FitsIn n (Some s) = Fits n s

abbrev IsPlain : Option Occurrence → Type 0
IsPlain None = Unit {0}
IsPlain (Some what) = IsRange 0 what

fits_more : (s : Said) (m n : ℕ) → m ≤ n → Fits m s → Fits n s
fits_more (Stray moment receiver bytes) m n le h = omega (arith, le, h)
fits_more (Happens event) m n le h = h
fits_more (Console setup) m n le h = tt
fits_more (Receiver universe) m n le h = tt
fits_more Nothing m n le h = tt
fits_more Malformed m n le h = tt

fits_in_more : (o : Option Said) (m n : ℕ) → m ≤ n → FitsIn m o → FitsIn n o
fits_in_more None m n le h = tt
fits_in_more (Some s) m n le h = fits_more s m n le h

if-holds : {X : Type 0} (P : X → Type 0) (b : Bool) (x y : X) → P x → P y
    → P (if b then x else y)
if-holds P true x y a b = a
if-holds P false x y a b = b

map-holds : {A B : Type 0} (P : Option B → Type 0) (f : A → B) (o : Option A) → P None
    → ((x : A) → P (Some (f x))) → P (option_map f o)
map-holds P f None none h = none
map-holds P f (Some x) none h = h x

then-holds : {A B : Type 0} (P : Option B → Type 0) (f : A → Option B) (o : Option A) → P None
    → ((x : A) → P (f x)) → P (option_and_then f o)
then-holds P f None none h = none
then-holds P f (Some x) none h = h x

stray_fits : (n m r : ℕ) (o : Option (List ℕ)) → size_of o ≤ n
    → FitsIn n (option_map (λ bytes. Stray m r bytes) o)
stray_fits n m r None h = tt
stray_fits n m r (Some bytes) h = h

plain_fits : (n m : ℕ) (o : Option Occurrence) → IsPlain o
    → FitsIn n (option_map (λ what. at m what) o)
plain_fits n m None h = tt
plain_fits n m (Some what) h = h

console-fits : (n : ℕ) (words : List (List ℕ)) → FitsIn n (console_with words)
console-fits n [] = tt
console-fits n (a ∷ []) = tt
console-fits n (a ∷ b ∷ []) = tt
console-fits n (a ∷ b ∷ c ∷ []) =
    then-holds (FitsIn n) _ (universe_of a) tt (λ x. then-holds (FitsIn n) _ (whole_of 200 b) tt
    (λ y. map-holds (FitsIn n) _ (parsed c) tt (λ z. tt)))
console-fits n (a ∷ b ∷ c ∷ d ∷ rest) = tt

receiver-fits : (n : ℕ) (words : List (List ℕ)) → FitsIn n (receiver_with words)
receiver-fits n [] = tt
receiver-fits n (a ∷ []) = map-holds (FitsIn n) _ (universe_of a) tt (λ x. tt)
receiver-fits n (a ∷ b ∷ rest) = tt

order-fits : (n m : ℕ) (words : List (List ℕ)) → FitsIn n (order_with m words)
order-fits n m [] = tt
order-fits n m (a ∷ words) =
    then-holds (FitsIn n) _ (place_of a) tt (λ x.
    map-holds (FitsIn n) _ (instruction_of words) tt (λ y. tt))

tick-fits : (n m : ℕ) (words : List (List ℕ)) → FitsIn n (tick_with m words)
tick-fits n m [] = tt
tick-fits n m (a ∷ []) = map-holds (FitsIn n) _ (place_of a) tt (λ x. tt)
tick-fits n m (a ∷ b ∷ rest) = tt

slots-fits : (n m : ℕ) (words : List (List ℕ)) → FitsIn n (show_with m words)
slots-fits n m [] = tt
slots-fits n m (a ∷ []) = map-holds (FitsIn n) _ (place_of a) tt (λ x. tt)
slots-fits n m (a ∷ b ∷ rest) = tt

delivered_is_plain : (a b c d : List ℕ) → IsPlain (delivery_with a b c d)
delivered_is_plain a b c d =
    then-holds IsPlain _ (place_of a) tt (λ r. then-holds IsPlain _ (place_of b) tt
    (λ i. then-holds IsPlain _ (place_of c) tt (λ u. map-holds IsPlain _ (moment_of d) tt
    (λ k. tt))))

deliver-fits : (n m : ℕ) (words : List (List ℕ)) → FitsIn n (deliver_with m words)
deliver-fits n m [] = tt
deliver-fits n m (a ∷ []) = tt
deliver-fits n m (a ∷ b ∷ []) = tt
deliver-fits n m (a ∷ b ∷ c ∷ []) = tt
deliver-fits n m (a ∷ b ∷ c ∷ d ∷ []) =
    plain_fits n m (delivery_with a b c d) (delivered_is_plain a b c d)
deliver-fits n m (a ∷ b ∷ c ∷ d ∷ e ∷ rest) = tt

stray-fits : (m : ℕ) (words : List (List ℕ)) → FitsIn (sizes words) (stray_with m words)
stray-fits m [] = tt
stray-fits m (a ∷ words) =
    let h = digits-size words in
    then-holds (FitsIn (sizes (a ∷ words))) _ (place_of a) tt
    (λ r. stray_fits (sizes (a ∷ words)) m r (option_and_then hex_bytes (digits_in words))
    (omega (arith, h)))

event-fits : (m : ℕ) (words : List (List ℕ)) → FitsIn (sizes words) (event_with m words)
event-fits m [] = tt
event-fits m (keyword ∷ words) =
    let n = sizes (keyword ∷ words) in
    let stray = fits_in_more (stray_with m words) (sizes words) n (omega arith)
    (stray-fits m words) in
    if-holds (FitsIn n) (same_word keyword (codes "do")) _ _ (order-fits n m words)
    (if-holds (FitsIn n) (same_word keyword (codes "tick")) _ _ (tick-fits n m words)
    (if-holds (FitsIn n) (same_word keyword (codes "deliver")) _ _ (deliver-fits n m words)
    (if-holds (FitsIn n) (same_word keyword (codes "stray")) _ _ stray
    (if-holds (FitsIn n) (same_word keyword (codes "slots")) _ None (slots-fits n m words) tt))))

header-fits : (n : ℕ) (below : Bool) (o : Option Said) → FitsIn n o → FitsIn n (header below o)
header-fits n true o h = tt
header-fits n false o h = h

spelled-fits : (below : Bool) (first : List ℕ) (words : List (List ℕ))
    → FitsIn (sizes words) (form_with below first words)
spelled-fits below first words =
    let n = sizes words in
    if-holds (FitsIn n) (same_word first (codes "console")) _ _
    (header-fits n below (console_with words) (console-fits n words))
    (if-holds (FitsIn n) (same_word first (codes "receiver")) _ _
    (header-fits n below (receiver_with words) (receiver-fits n words))
    (then-holds (FitsIn n) _ (moment_of first) tt (λ m. event-fits m words)))

malformed-fits : (n : ℕ) (o : Option Said) → FitsIn n o → Fits n (or_malformed o)
malformed-fits n None h = tt
malformed-fits n (Some s) h = h

said-fits : (below : Bool) (words : List (List ℕ)) → Fits (sizes words) (script_line below words)
said-fits below [] = tt
said-fits below (first ∷ words) =
    fits_more (or_malformed (form_with below first words)) (sizes words) (sizes (first ∷ words))
    (omega arith)
    (malformed-fits (sizes words) (form_with below first words) (spelled-fits below first words))

pub line-fits : (below : Bool) (line : List ℕ)
    → Fits (length line) (script_line below (words_of line))
line-fits below line =
    fits_more (script_line below (words_of line)) (sizes (words_of line)) (length line)
    (words-size line)
    (said-fits below (words_of line))
