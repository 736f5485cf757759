-- The tokens that may follow goals, by cases.
use Rattle.std.proofs.Common.{◌≡◌, ◌≢◌, true, refl}
use Rattle.kr_parse_grammar.specs.declared.terminal.Terminal.{Terminal}
use Rattle.kr_parse_grammar.specs.declared.terminal.Terminal.TheVariants.{End, Identifier, Void, RightParenthesis, LeftBrace, RightBrace, RightBracket, Semicolon, Comma, Colon, Greater, Step, Outside}
use Rattle.kr_parse_grammar.specs.State.{is_end, is_semicolon, is_void, is_left_brace, is_right_brace, is_right_parenthesis, is_inside, closes, ends_primary, ends_type, ends_class_name, ends_statement}

pub of_end : (P : Terminal → Type 0) → P End → (f : Terminal) → is_end f ≡ true → P f
of_end P a End e = a
of_end P a _ e = cc

pub of_semicolon : (P : Terminal → Type 0) → P Semicolon → (f : Terminal) → is_semicolon f ≡ true → P f
of_semicolon P a Semicolon e = a
of_semicolon P a _ e = cc

pub of_right_brace : (P : Terminal → Type 0) → P RightBrace → (f : Terminal) → is_right_brace f ≡ true → P f
of_right_brace P a RightBrace e = a
of_right_brace P a _ e = cc

pub of_right_parenthesis : (P : Terminal → Type 0) → P RightParenthesis → (f : Terminal) → is_right_parenthesis f ≡ true → P f
of_right_parenthesis P a RightParenthesis e = a
of_right_parenthesis P a _ e = cc

pub of_closes : (P : Terminal → Type 0) → P RightParenthesis → P RightBracket → P Semicolon → P Comma → P Colon → (f : Terminal) → closes f ≡ true → P f
of_closes P a b c d g RightParenthesis e = a
of_closes P a b c d g RightBracket e = b
of_closes P a b c d g Semicolon e = c
of_closes P a b c d g Comma e = d
of_closes P a b c d g Colon e = g
of_closes P a b c d g _ e = cc

pub of_primary : (P : Terminal → Type 0) → P Step → ((f : Terminal) → closes f ≡ true → P f) → (f : Terminal) → ends_primary f ≡ true → P f
of_primary P a b Step e = a
of_primary P a b f e = b f e

pub of_type : (P : Terminal → Type 0) → P Identifier → P Greater → ((f : Terminal) → closes f ≡ true → P f) → (f : Terminal) → ends_type f ≡ true → P f
of_type P a b c Identifier e = a
of_type P a b c Greater e = b
of_type P a b c f e = c f e

pub of_class_name : (P : Terminal → Type 0) → P LeftBrace → P Identifier → P RightParenthesis → (f : Terminal) → ends_class_name f ≡ true → P f
of_class_name P a b c LeftBrace e = a
of_class_name P a b c Identifier e = b
of_class_name P a b c RightParenthesis e = c
of_class_name P a b c _ e = cc

pub class_name_inside : (f : Terminal) → ends_class_name f ≡ true → is_inside f ≡ true
class_name_inside = of_class_name (λ f. is_inside f ≡ true) refl refl refl

pub end_inside : (f : Terminal) → is_end f ≡ true → is_inside f ≡ true
end_inside = of_end (λ f. is_inside f ≡ true) refl

pub void_inside : (f : Terminal) → is_void f ≡ true → is_inside f ≡ true
void_inside Void e = refl
void_inside _ e = cc

pub right_brace_inside : (f : Terminal) → is_right_brace f ≡ true → is_inside f ≡ true
right_brace_inside = of_right_brace (λ f. is_inside f ≡ true) refl

pub right_brace_statement : (f : Terminal) → is_right_brace f ≡ true → ends_statement f ≡ true
right_brace_statement = of_right_brace (λ f. ends_statement f ≡ true) refl

pub right_parenthesis_inside : (f : Terminal) → is_right_parenthesis f ≡ true → is_inside f ≡ true
right_parenthesis_inside = of_right_parenthesis (λ f. is_inside f ≡ true) refl

pub right_parenthesis_closes : (f : Terminal) → is_right_parenthesis f ≡ true → closes f ≡ true
right_parenthesis_closes = of_right_parenthesis (λ f. closes f ≡ true) refl

pub semicolon_closes : (f : Terminal) → is_semicolon f ≡ true → closes f ≡ true
semicolon_closes = of_semicolon (λ f. closes f ≡ true) refl

pub closes_primary : (f : Terminal) → closes f ≡ true → ends_primary f ≡ true
closes_primary = of_closes (λ f. ends_primary f ≡ true) refl refl refl refl refl

pub closes_type : (f : Terminal) → closes f ≡ true → ends_type f ≡ true
closes_type = of_closes (λ f. ends_type f ≡ true) refl refl refl refl refl

pub closes_inside : (f : Terminal) → closes f ≡ true → is_inside f ≡ true
closes_inside = of_closes (λ f. is_inside f ≡ true) refl refl refl refl refl

pub primary_inside : (f : Terminal) → ends_primary f ≡ true → is_inside f ≡ true
primary_inside = of_primary (λ f. is_inside f ≡ true) refl closes_inside

pub type_inside : (f : Terminal) → ends_type f ≡ true → is_inside f ≡ true
type_inside = of_type (λ f. is_inside f ≡ true) refl refl closes_inside

pub statement_inside : (f : Terminal) → ends_statement f ≡ true → is_inside f ≡ true
statement_inside Outside e = e
statement_inside _ e = refl

pub inside_apart : (f : Terminal) → is_inside f ≡ true → f ≢ Outside
inside_apart Outside e = cc
inside_apart _ e = λ n. cc

pub end_is : (f : Terminal) → is_end f ≡ true → f ≡ End
end_is = of_end (λ f. f ≡ End) refl

pub semicolon_is : (f : Terminal) → is_semicolon f ≡ true → f ≡ Semicolon
semicolon_is = of_semicolon (λ f. f ≡ Semicolon) refl

pub void_is : (f : Terminal) → is_void f ≡ true → f ≡ Void
void_is Void e = refl
void_is _ e = cc

pub left_brace_is : (f : Terminal) → is_left_brace f ≡ true → f ≡ LeftBrace
left_brace_is LeftBrace e = refl
left_brace_is _ e = cc

pub left_brace_class_name : (f : Terminal) → is_left_brace f ≡ true → ends_class_name f ≡ true
left_brace_class_name LeftBrace e = refl
left_brace_class_name _ e = cc

pub right_brace_is : (f : Terminal) → is_right_brace f ≡ true → f ≡ RightBrace
right_brace_is = of_right_brace (λ f. f ≡ RightBrace) refl

pub right_parenthesis_is : (f : Terminal) → is_right_parenthesis f ≡ true → f ≡ RightParenthesis
right_parenthesis_is = of_right_parenthesis (λ f. f ≡ RightParenthesis) refl
