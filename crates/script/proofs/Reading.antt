-- Which texts `parse` reads as a number, and that they are what is written of it.
use Rattle.std.proofs.Common.{◌≡◌, ◌≢◌, ℕ, zero, suc, ◌<◌, ◌^◌, List, length, get_or, sym, ap, arith, MatchResult, Result, Ok, Err}
use Rattle.std.specs.Fmt.{decimal}
use Rattle.std.specs.Str.Parse.{AllDigits, digits_value, ParsesUnsigned}
use Rattle.std.proofs.lemmas.Fmt.{decimal_digit, decimal_nonempty, digits_decimal, decimal-digits_value, first_decimal, parse-decimal}
use Rattle.std.proofs.lemmas.Str.Parse.{IsNumeralModel, numerals_by_value, tells_digits, digit_at, parse_plain}
use Rattle.script.specs.Plain.{Plain}

pub own : IsNumeralModel (AllDigits 10) (digits_value 10)
own = numerals_by_value _ tells_digits

-- What is written of a number is plain.
pub plain_decimal : (n : ℕ) → n < 2 ^ 64 → Plain (decimal n)
plain_decimal zero h = (omega (arith, ap (λ ds. get_or ds 0 0) (decimal_digit 0 (omega arith))), λ first. ap length (decimal_digit 0 (omega arith)))
plain_decimal (suc n) h =
    let first : 48 < get_or (decimal (suc n)) 0 0 = first_decimal (suc n) (omega arith) h in
    let digit = digit_at (decimal (suc n)) 0 (digits_decimal own (suc n) h) (decimal_nonempty (suc n) h) in
    (omega (arith, digit.0), λ zero. absurd (omega arith))

-- A plain text is read as just the number that is written so.
pub parsed : {E : Type 0} (text : List ℕ) (r : Result ℕ E) → ParsesUnsigned 64 10 text r → Plain text → MatchResult r (λ n. (text ≡ decimal n) × ((m : ℕ) → m < 2 ^ 64 → text ≡ decimal m → m ≡ n)) (λ e. (n : ℕ) → n < 2 ^ 64 → text ≢ decimal n)
parsed {E} text (Ok n) read plain =
    let whole = parse_plain own {E = E} 64 text (Ok n) read plain.0 in
    (rw whole.1 (sym (decimal-digits_value own text whole.0.0 whole.0.1 plain.1 whole.0.2)), λ m h same. let found = parse-decimal {E = E} 64 m text (Ok n) h h same read in cc)
parsed {E} text (Err e) read plain = λ n h same. let found = parse-decimal {E = E} 64 n text (Err e) h h same read in cc

pub ruleset numbers = (plain_decimal, parsed)
