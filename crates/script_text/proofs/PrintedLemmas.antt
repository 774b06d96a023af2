-- What is printed for a part is a visible word, and stands for the part.
use Rattle.std.proofs.Common.{◌≡◌, ℕ, zero, suc, ◌+◌, ◌*◌, ◌/◌, ◌%◌, ◌^◌, ◌<◌, ◌≤◌, ◌==◌, Bool, true, false, ◌&&◌, ◌||◌, List, [], ◌∷◌, ◌++◌, length, take, codes, Option, Some, None, refl, ◌∙◌, arith}
use Rattle.std.specs.Prelude.{if◌then◌else◌, map, nat_lt, nat_le, bytes_eq}
use Rattle.std.specs.Char.{digit_value, is_ascii_digit, is_ascii_graphic}
use Rattle.std.specs.Fmt.{decimal, digit_glyph}
use Rattle.std.specs.Int.{byte_at, from_be_bytes, to_be_bytes, w64}
use Rattle.std.specs.List.{All, flat_map, list_all}
use Rattle.std.specs.Str.Parse.{AllDigits, digits_value, digits_value_after}
use Rattle.std.proofs.lemmas.Bool.{false≢true}
use Rattle.std.proofs.lemmas.Bool.Decides.{nat_tests}
use Rattle.std.proofs.lemmas.Fmt.{decimal_is_IsNumeral, length-decimal-le}
use Rattle.std.proofs.lemmas.List.Folds.{list_all-append}
use Rattle.std.proofs.lemmas.Nat.{from_be_bytes-to_be_bytes_8}
use Rattle.text_lines.specs.Number.{are_digits, number_of}
use Rattle.script_text.specs.OutputPart.{HasInRange, IsInRange, OutPart, StandFor, StandsFor, actor, answer, bytes, call_parts, fixed, line_parts, mark_parts, not_yet_parts, number, part_text, refusal_parts, reply_parts, word}
use Rattle.script_text.specs.OutputPlace.{actor_of, answer_of}
use Rattle.script_text.specs.OutputText.{line_words}
use Rattle.script_text.specs.Shown.{actor_text, answer_text, are_visible, bytes_text, hex_text, is_shown_as_is, word_text}
use Rattle.script_text.specs.WordValue.{are_hex_digits, bytes_of, hex_bytes, is_hex_digit, paired, word_of}
use Rattle.script_text.specs.declared.out_lines.NotYetText.{NotYetText}
use Rattle.script_text.specs.declared.out_lines.NotYetText.TheVariants as notyet
use Rattle.script_text.specs.declared.out_lines.OutLine.{OutLine}
use Rattle.script_text.specs.declared.out_lines.OutLine.TheVariants as line
use Rattle.script_text.specs.declared.out_lines.RefusalText.{RefusalText}
use Rattle.script_text.specs.declared.out_lines.RefusalText.TheVariants as refusal
use Rattle.script_text.specs.declared.out_lines.ReplyText.{ReplyText}
use Rattle.script_text.specs.declared.out_lines.ReplyText.TheVariants.{Done, Value, Absent, Full, NoSpace}
use Rattle.script_text.specs.declared.scripts.CallText.{CallText}
use Rattle.script_text.specs.declared.scripts.CallText.TheVariants.{Put, Get, Delete}

both_true : (a b : Bool) → (a && b) ≡ true → (a ≡ true) × (b ≡ true)
both_true true b is = (refl, is)
both_true false b is = absurd (false≢true is)

not_m : (d : ℕ) → is_ascii_digit d ≡ true → (d == 109) ≡ false
not_m d is = grind (arith, nat_tests)

not_l : (d : ℕ) → is_hex_digit d ≡ true → (d == 108) ≡ false
not_l d is = grind (arith, nat_tests)

-- digits of base 16

glyph_value : (d : ℕ) → d < 16 → digit_value (digit_glyph false d) ≡ d
glyph_value d small = grind (arith, nat_tests)

glyph_hex : (d : ℕ) → d < 16 → is_hex_digit (digit_glyph false d) ≡ true
glyph_hex d small = grind (arith, nat_tests)

hex_visible : (byte : ℕ) → is_hex_digit byte ≡ true → is_ascii_graphic byte ≡ true
hex_visible byte is = grind (arith, nat_tests)

-- numbers

digit_is : (byte : ℕ) → digit_value byte < 10 → is_ascii_digit byte ≡ true
digit_is byte small = grind (arith, nat_tests)

are_digits-all : (ds : List ℕ) → AllDigits 10 ds → are_digits ds ≡ true
are_digits-all [] all = refl
are_digits-all (d ∷ ds) all = rw (digit_is d all.0, are_digits-all ds all.1) refl

digit_visible : (byte : ℕ) → is_ascii_digit byte ≡ true → is_ascii_graphic byte ≡ true
digit_visible byte is = grind (arith, nat_tests)

above : (n least : ℕ) → least < n → nat_lt least n ≡ true
above n least lt = grind (arith, nat_tests)

within : (n most : ℕ) → n ≤ most → nat_le n most ≡ true
within n most le = grind (arith, nat_tests)

number_of-digits : (ds : List ℕ) (n : ℕ) → 0 < length ds → length ds ≤ 10 → are_digits ds ≡ true → digits_value 10 ds ≡ n → n < 2 ^ 32 → number_of ds ≡ Some n
unfolding number_of
number_of-digits ds n some few digits value small =
    rw (above (length ds) 0 some, within (length ds) 10 few, digits, value, within n 4294967295 (omega arith)) refl

pub number_of-decimal : (n : ℕ) → n < 2 ^ 32 → number_of (decimal n) ≡ Some n
number_of-decimal n small =
    let is = decimal_is_IsNumeral n (omega arith) in
    number_of-digits (decimal n) n is.0.0 (length-decimal-le 10 n (omega arith) (omega arith) (omega arith)) (are_digits-all (decimal n) is.0.1) is.1 small

-- words

-- bytes, one after the other
Small : List ℕ → Type 0
Small [] = Unit {0}
Small (b ∷ bs) = (b < 256) × Small bs

small_bytes : (bs : List ℕ) → All (λ b. b < 256) bs → Small bs
unfolding Small
small_bytes [] all = tt
small_bytes (b ∷ bs) all = (all 0 b (omega arith), small_bytes bs (λ k d lt. all (suc k) d (omega arith)))

hex_digits-bytes : (bs : List ℕ) → Small bs → are_hex_digits (flat_map hex_text bs) ≡ true
unfolding Small
hex_digits-bytes [] small = refl
hex_digits-bytes (b ∷ bs) small = rw (glyph_hex (b / 16) (omega (arith, small.0)), glyph_hex (b % 16) (omega arith), hex_digits-bytes bs small.1) refl

-- the number that bytes write, the highest first, behind this one
number_after : ℕ → List ℕ → ℕ
number_after past [] = past
number_after past (b ∷ bs) = number_after (past * 256 + b) bs

digits_value-bytes : (past : ℕ) (bs : List ℕ) → Small bs → digits_value_after 16 past (flat_map hex_text bs) ≡ number_after past bs
unfolding number_after Small
digits_value-bytes past [] small = refl
digits_value-bytes past (b ∷ bs) small =
    let high = glyph_value (b / 16) (omega (arith, small.0)) in
    let low = glyph_value (b % 16) (omega arith) in
    let both : (past * 16 + b / 16) * 16 + b % 16 ≡ past * 256 + b = omega arith in
    rw (high, low, both) (digits_value-bytes (past * 256 + b) bs small.1)

eight_bytes : (a b c d e f g h : ℕ) → number_after 0 (a ∷ b ∷ c ∷ d ∷ e ∷ f ∷ g ∷ h ∷ []) ≡ from_be_bytes w64 (a ∷ b ∷ c ∷ d ∷ e ∷ f ∷ g ∷ h ∷ [])
unfolding number_after
eight_bytes a b c d e f g h = omega arith

word_of-digits : (ds : List ℕ) (w : ℕ) → length ds ≡ 16 → are_hex_digits ds ≡ true → digits_value 16 ds ≡ w → word_of ds ≡ Some w
unfolding word_of
word_of-digits ds w long digits value = rw (long, digits, value) refl

byte_small : (k n : ℕ) → byte_at k n < 256
byte_small zero n = omega arith
byte_small (suc k) n = omega arith

word_bytes : (w : ℕ) → Small (to_be_bytes w64 w)
unfolding Small
word_bytes w = (byte_small 7 w, (byte_small 6 w, (byte_small 5 w, (byte_small 4 w, (byte_small 3 w, (byte_small 2 w, (byte_small 1 w, (byte_small 0 w, tt))))))))

pub word_of-word_text : (w : ℕ) → w < 2 ^ 64 → word_of (word_text w) ≡ Some w
unfolding word_text
word_of-word_text w small =
    word_of-digits (flat_map hex_text (to_be_bytes w64 w)) w refl (hex_digits-bytes (to_be_bytes w64 w) (word_bytes w))
    (digits_value-bytes 0 (to_be_bytes w64 w) (word_bytes w)
    ∙ eight_bytes (byte_at 7 w) (byte_at 6 w) (byte_at 5 w) (byte_at 4 w) (byte_at 3 w) (byte_at 2 w) (byte_at 1 w) (byte_at 0 w)
    ∙ from_be_bytes-to_be_bytes_8 w small)

-- bytes

paired-bytes : (bs : List ℕ) → Small bs → paired (flat_map hex_text bs) ≡ bs
unfolding Small
paired-bytes [] small = refl
paired-bytes (b ∷ bs) small =
    let high = glyph_value (b / 16) (omega (arith, small.0)) in
    let low = glyph_value (b % 16) (omega arith) in
    let both : (0 * 16 + b / 16) * 16 + b % 16 ≡ b = omega arith in
    rw (high, low, both, paired-bytes bs small.1) refl

length-bytes : (bs : List ℕ) → length (flat_map hex_text bs) ≡ 2 * length bs
length-bytes [] = refl
length-bytes (b ∷ bs) = omega (arith, length-bytes bs)

hex_bytes-bytes : (bs : List ℕ) → Small bs → hex_bytes (flat_map hex_text bs) ≡ Some bs
unfolding hex_bytes
hex_bytes-bytes bs small =
    let even : length (flat_map hex_text bs) % 2 ≡ 0 = omega (arith, length-bytes bs) in
    rw (even, hex_digits-bytes bs small, paired-bytes bs small) refl

equal_either : (m n : ℕ) → (m == n) ≡ (n == m)
equal_either m n = grind (arith, nat_tests)

not_nothing : (n : ℕ) → 0 < n → (n == 0) ≡ false
not_nothing n some = grind (arith, nat_tests)

not_both : (s t v : Bool) → (if s && (t && true) then false else v) ≡ true → (s && (t && true)) ≡ false
not_both true true v is = absurd (false≢true is)
not_both true false v is = refl
not_both false t v is = refl

and_false : (b : Bool) → (b && false) ≡ false
and_false true = refl
and_false false = refl

as_is : (bs : List ℕ) → is_shown_as_is bs ≡ true → bytes_eq (take 2 bs) (codes "x:") ≡ false
as_is [] is = refl
as_is (a ∷ []) is = and_false (a == 120)
as_is (a ∷ b ∷ bs) is =
    let some : (length (a ∷ b ∷ bs) == 0) ≡ false = not_nothing (length (a ∷ b ∷ bs)) (omega arith) in
    rw (equal_either a 120, equal_either b 58) (not_both (120 == a) (58 == b) (are_visible (a ∷ b ∷ bs)) (rw some at is))

own_bytes : (bs : List ℕ) → bytes_eq (take 2 bs) (codes "x:") ≡ false → bytes_of bs ≡ Some bs
unfolding bytes_of
own_bytes bs is = rw is refl

marked_bytes : (ds : List ℕ) → bytes_of (codes "x:" ++ ds) ≡ hex_bytes ds
unfolding bytes_of
marked_bytes ds = refl

bytes_shown : (bs : List ℕ) (shown : Bool) → is_shown_as_is bs ≡ shown → Small bs → bytes_of (if shown then bs else codes "x:" ++ flat_map hex_text bs) ≡ Some bs
bytes_shown bs true is small = own_bytes bs (as_is bs is)
bytes_shown bs false is small = marked_bytes (flat_map hex_text bs) ∙ hex_bytes-bytes bs small

pub bytes_of-bytes_text : (bs : List ℕ) → All (λ b. b < 256) bs → bytes_of (bytes_text bs) ≡ Some bs
unfolding bytes_text
bytes_of-bytes_text bs small = bytes_shown bs (is_shown_as_is bs) refl (small_bytes bs small)

-- actors and answers

first_digit : (d : ℕ) (ds : List ℕ) → are_digits (d ∷ ds) ≡ true → is_ascii_digit d ≡ true
first_digit d ds is = (both_true (is_ascii_digit d) (are_digits ds) is).0

no_master : (ds : List ℕ) → are_digits ds ≡ true → 0 < length ds → bytes_eq ds (codes "m") ≡ false
no_master [] is some = absurd (omega arith)
no_master (d ∷ ds) is some = rw (not_m d (first_digit d ds is)) refl

pub actor_of-actor_text : (who : Option ℕ) → IsInRange (actor who) → actor_of (actor_text who) ≡ Some who
actor_of-actor_text None small = refl
actor_of-actor_text (Some client) small =
    let is = decimal_is_IsNumeral client (omega arith) in
    rw (no_master (decimal client) (are_digits-all (decimal client) is.0.1) is.0.0, number_of-decimal client small) refl

no_loss : (ds : List ℕ) → are_hex_digits ds ≡ true → bytes_eq ds (codes "lost") ≡ false
no_loss [] is = refl
no_loss (d ∷ ds) is = rw (not_l d (both_true (is_hex_digit d) (are_hex_digits ds) is).0) refl

hex_digits-word : (w : ℕ) → are_hex_digits (word_text w) ≡ true
unfolding word_text
hex_digits-word w = hex_digits-bytes (to_be_bytes w64 w) (word_bytes w)

pub answer_of-answer_text : (found : Option ℕ) → IsInRange (answer found) → answer_of (answer_text found) ≡ Some found
answer_of-answer_text None small = refl
answer_of-answer_text (Some w) small = rw (no_loss (word_text w) (hex_digits-word w), word_of-word_text w small) refl

-- what is printed for a part stands for it
pub part_stands : (part : OutPart) → IsInRange part → StandsFor (part_text part) part
part_stands (fixed name) small = refl
part_stands (number value) small = number_of-decimal value small
part_stands (actor who) small = actor_of-actor_text who small
part_stands (bytes value) small = bytes_of-bytes_text value small
part_stands (word value) small = word_of-word_text value small
part_stands (answer found) small = answer_of-answer_text found small

pub parts_stand : (parts : List OutPart) → All IsInRange parts → StandFor (map part_text parts) parts
parts_stand [] small = tt
parts_stand (part ∷ parts) small = (part_stands part (small 0 part (omega arith)), parts_stand parts (λ k d lt. small (suc k) d (omega arith)))

-- visible words

-- a word as it may stand in a line: not empty, and each byte is 21 to 7e
pub record IsWord (text : List ℕ) : Type 0 where
  pub visible : are_visible text ≡ true
  pub some : 0 < length text

digits_visible : (ds : List ℕ) → are_digits ds ≡ true → are_visible ds ≡ true
digits_visible [] is = refl
digits_visible (d ∷ ds) is =
    let both = both_true (is_ascii_digit d) (are_digits ds) is in
    rw (digit_visible d both.0, digits_visible ds both.1) refl

hex_digits_visible : (ds : List ℕ) → are_hex_digits ds ≡ true → are_visible ds ≡ true
hex_digits_visible [] is = refl
hex_digits_visible (d ∷ ds) is =
    let both = both_true (is_hex_digit d) (are_hex_digits ds) is in
    rw (hex_visible d both.0, hex_digits_visible ds both.1) refl

decimal_word : (n : ℕ) → n < 2 ^ 32 → IsWord (decimal n)
decimal_word n small =
    let is = decimal_is_IsNumeral n (omega arith) in
    record { visible = digits_visible (decimal n) (are_digits-all (decimal n) is.0.1); some = is.0.0 }

long_word : (w : ℕ) → length (word_text w) ≡ 16
unfolding word_text
long_word w = refl

word_word : (w : ℕ) → IsWord (word_text w)
word_word w = record { visible = hex_digits_visible (word_text w) (hex_digits-word w); some = omega (arith, long_word w) }

else_part : (b x : Bool) → (if b then false else x) ≡ true → (b ≡ false) × (x ≡ true)
else_part true x is = absurd (false≢true is)
else_part false x is = (refl, is)

neither : (a b : Bool) → (a || b) ≡ false → a ≡ false
neither true b is = is
neither false b is = refl

some_if : (n : ℕ) → (n == 0) ≡ false → 0 < n
some_if n is = grind (arith, nat_tests)

bytes_word : (bs : List ℕ) (shown : Bool) → is_shown_as_is bs ≡ shown → Small bs → IsWord (if shown then bs else codes "x:" ++ flat_map hex_text bs)
bytes_word bs true is small =
    let parts = else_part _ (are_visible bs) is in
    record { visible = parts.1; some = some_if (length bs) (neither (length bs == 0) _ parts.0) }
bytes_word bs false is small = record { visible = hex_digits_visible (flat_map hex_text bs) (hex_digits-bytes bs small); some = omega arith }

bytes_text_word : (bs : List ℕ) → All (λ b. b < 256) bs → IsWord (bytes_text bs)
unfolding bytes_text
bytes_text_word bs small = bytes_word bs (is_shown_as_is bs) refl (small_bytes bs small)

actor_word : (who : Option ℕ) → IsInRange (actor who) → IsWord (actor_text who)
actor_word None small = record { visible = refl; some = omega arith }
actor_word (Some client) small = decimal_word client small

answer_word : (found : Option ℕ) → IsWord (answer_text found)
answer_word None = record { visible = refl; some = omega arith }
answer_word (Some w) = word_word w

-- whether a fixed word may stand in a line
pub is_fixed_word : OutPart → Bool
is_fixed_word (fixed name) = are_visible name && nat_lt 0 (length name)
is_fixed_word part = true

fixed_word : (name : List ℕ) → is_fixed_word (fixed name) ≡ true → IsWord name
unfolding is_fixed_word
fixed_word name is =
    let both = both_true (are_visible name) (nat_lt 0 (length name)) is in
    record { visible = both.0; some = grind (arith, nat_tests, both.1) }

part_word : (part : OutPart) → is_fixed_word part ≡ true → IsInRange part → IsWord (part_text part)
part_word (fixed name) is small = fixed_word name is
part_word (number value) is small = decimal_word value small
part_word (actor who) is small = actor_word who small
part_word (bytes value) is small = bytes_text_word value small
part_word (word value) is small = word_word value
part_word (answer found) is small = answer_word found

unfoldable pub AreWords : List (List ℕ) → Type 0
AreWords [] = Unit {0}
AreWords (text ∷ texts) = IsWord text × AreWords texts

pub part_words : (parts : List OutPart) → list_all is_fixed_word parts ≡ true → All IsInRange parts → AreWords (map part_text parts)
unfolding AreWords
part_words [] is small = tt
part_words (part ∷ parts) is small =
    let both = both_true (is_fixed_word part) (list_all is_fixed_word parts) is in
    (part_word part both.0 (small 0 part (omega arith)), part_words parts both.1 (λ k d lt. small (suc k) d (omega arith)))

call_fixed : (call : CallText) → list_all is_fixed_word (call_parts call) ≡ true
unfolding is_fixed_word
call_fixed (Put key value) = refl
call_fixed (Get key) = refl
call_fixed (Delete key) = refl

reply_fixed : (reply : ReplyText) → list_all is_fixed_word (reply_parts reply) ≡ true
unfolding is_fixed_word
reply_fixed Done = refl
reply_fixed (Value value) = refl
reply_fixed Absent = refl
reply_fixed Full = refl
reply_fixed (NoSpace class client begin) = refl

not_yet_fixed : (why : NotYetText) → list_all is_fixed_word (not_yet_parts why) ≡ true
unfolding is_fixed_word
not_yet_fixed (notyet.Sealed epoch) = refl
not_yet_fixed (notyet.Lost node) = refl
not_yet_fixed (notyet.Unchanged slot old) = refl

refusal_fixed : (why : RefusalText) → list_all is_fixed_word (refusal_parts why) ≡ true
unfolding is_fixed_word
refusal_fixed (refusal.Clients n) = refl
refusal_fixed (refusal.Unknown n) = refl
refusal_fixed (refusal.Stopped n) = refl
refusal_fixed (refusal.Busy n) = refl
refusal_fixed (refusal.Key n) = refl
refusal_fixed (refusal.Value n) = refl
refusal_fixed (refusal.Spent n) = refl
refusal_fixed (refusal.Idle n) = refl
refusal_fixed (refusal.Live n) = refl
refusal_fixed (refusal.Running n) = refl
refusal_fixed (refusal.Recovered n) = refl
refusal_fixed (refusal.Node n) = refl
refusal_fixed (refusal.Gone n) = refl
refusal_fixed (refusal.LastLive n) = refl
refusal_fixed (refusal.Masked n) = refl
refusal_fixed refusal.Task = refl
refusal_fixed (refusal.Sealed epoch) = refl
refusal_fixed refusal.Other = refl

mark_fixed : (mark : Bool) → list_all is_fixed_word (mark_parts mark (fixed (codes "open") ∷ [])) ≡ true
unfolding is_fixed_word
mark_fixed true = refl
mark_fixed false = refl

lost_fixed : (mark : Bool) → list_all is_fixed_word (mark_parts mark (fixed (codes "=") ∷ fixed (codes "lost") ∷ [])) ≡ true
unfolding is_fixed_word
lost_fixed true = refl
lost_fixed false = refl

all_both : (xs ys : List OutPart) → list_all is_fixed_word xs ≡ true → list_all is_fixed_word ys ≡ true → list_all is_fixed_word (xs ++ ys) ≡ true
all_both xs ys a b = list_all-append is_fixed_word xs ys ∙ rw (a, b) refl

line_fixed : (out : OutLine) → list_all is_fixed_word (line_parts out) ≡ true
unfolding is_fixed_word
line_fixed (line.Client client) = refl
line_fixed (line.Called client count call) = call_fixed call
line_fixed (line.Ended client count reply) = reply_fixed reply
line_fixed (line.NotYet who why) = not_yet_fixed why
line_fixed (line.Took who verbs) = refl
line_fixed (line.Stopped client) = refl
line_fixed (line.Lost node) = refl
line_fixed line.TaskSettle = refl
line_fixed (line.TaskRecover client) = refl
line_fixed (line.Recovered client) = refl
line_fixed (line.Opened epoch) = refl
line_fixed (line.Waiting client begin) = refl
line_fixed (line.VerbRead who node at found) = refl
line_fixed (line.VerbWrite who node at new lost) = lost_fixed lost
line_fixed (line.VerbSwap who node at expect fresh found) = refl
line_fixed (line.VerbAdd who node at amount found) = refl
line_fixed (line.Word node at stored) = refl
line_fixed (line.Dumped words) = refl
line_fixed (line.Blocks unused owned awaiting released) = refl
line_fixed (line.Objects stock present held) = refl
line_fixed (line.History entries) = refl
line_fixed (line.Entry client count call reply unreturned) =
    all_both (call_parts call) (reply_parts reply ++ mark_parts unreturned (fixed (codes "open") ∷ [])) (call_fixed call)
    (all_both (reply_parts reply) (mark_parts unreturned (fixed (codes "open") ∷ [])) (reply_fixed reply) (mark_fixed unreturned))
line_fixed (line.Refused why) = refusal_fixed why
line_fixed line.End = refl
line_fixed (line.Filled node) = refl
line_fixed (line.Joined node) = refl
line_fixed (line.TaskJoin node) = refl

-- the words of a line are words
pub line_words-words : (out : OutLine) → HasInRange out → AreWords (line_words out)
line_words-words out small = part_words (line_parts out) (line_fixed out) small
