-- To be believed: characters of names (Java Language Specification 3.8), white space (3.6) and line ends (3.4).
use Rattle.std.specs.Prelude.{◌≡◌, ℕ, Bool, true, false, not, ◌||◌, ◌==◌, nat_lt, List, [], ◌∷◌, ◌++◌}
use Rattle.std.specs.Char.{IsScalar, encode_utf8}
use Rattle.unicode_ident.specs.Ident.{is_xid_start, is_xid_continue}

-- a name may start with this character: Unicode's XID_Start, `_` or `$`
abbrev pub is_start : ℕ → Bool
is_start c = is_xid_start c || (c == 95 || c == 36)

-- a name may continue with this character: Unicode's XID_Continue or `$`
abbrev pub is_part : ℕ → Bool
is_part c = is_xid_continue c || c == 36

abbrev pub AllParts : List ℕ → Type 0
AllParts [] = Unit {0}
AllParts (c ∷ cs) = ((IsScalar c) × (is_part c ≡ true)) × AllParts cs

-- the text doesn't begin with a character that can continue a name
abbrev pub EndsWord : List ℕ → Type 0
EndsWord text = (c : ℕ) (more : List ℕ) → IsScalar c → text ≡ encode_utf8 c ++ more → is_part c ≡ false

-- LF and CR
abbrev pub is_line_end : ℕ → Bool
is_line_end b = b == 10 || b == 13

-- space, tab, form feed, LF and CR
abbrev pub is_white : ℕ → Bool
is_white b = (b == 32 || (b == 9 || b == 12)) || is_line_end b

-- a byte of UTF-8 begins a character: those from 128 to 191 continue one
abbrev pub begins_character : ℕ → Bool
begins_character b = nat_lt b 128 || not (nat_lt b 192)
