-- Reading on: from one place tokens and gaps lead one way.
use Rattle.std.proofs.Common.{◌≡◌, ℕ, ◌<◌, ◌≤◌, ◌⊎◌, inl, inr, Bool, true, List, [], ◌∷◌, ◌++◌, length, refl, sym, ap, subst, ◌∙◌, arith, length-append, append_assoc}
use Rattle.std.proofs.lemmas.List.{append-nil}
use Rattle.kr_lex.specs.declared.kind.Kind.{Kind}
use Rattle.kr_lex.specs.declared.kind.Kind.TheVariants as kinds
use Rattle.kr_lex.specs.declared.refusal.LexRule.{LexRule}
use Rattle.kr_lex.specs.Lexemes.{Lexeme}
use Rattle.kr_lex.specs.Gaps.{IsGap, white, line, block}
use Rattle.kr_lex.specs.ContractLines.{contract_spelling, head_of, IsContract}
use Rattle.kr_lex.specs.Spells.{IsTokenHere, stays, token_behind, Reaches, here, gap, token, contract, Spells}
use Rattle.kr_lex.specs.Broken.{BreaksHere}
use Rattle.kr_lex.proofs.Heads.{begins_contract}
use Rattle.kr_lex.proofs.Unique.{same_gap, same_here, here_some, gap_no_here, same_contract, contract_no_here}
use Rattle.kr_lex.proofs.Stuck.{contract_no_gap, stuck_gap, stuck_here, stuck_contract}

gap_some : (g r : List ℕ) → IsGap g r → 0 < length g
gap_some g r (white b e w) = omega (arith, ap length e)
gap_some g r (line h) = omega (arith, ap length h.spelled)
gap_some g r (block h) = omega (arith, ap length h.spelled, length-append (47 ∷ 42 ∷ h.body) (42 ∷ 47 ∷ []))

-- the place doesn't fall
pub onward : {file : ℕ} {inside last : Bool} {front text end left : List ℕ} {list : List Lexeme} → Reaches file inside front text list last end left → length front ≤ length end
onward here = omega arith
onward (gap {front = front} part rest e g d) = omega (arith, onward d, length-append front part)
onward (token {front = front} kind part rest e t d) = omega (arith, onward d, length-append front part)
onward (contract {front = front} kind blank rest c d) = omega (arith, onward d, length-append front (head_of kind blank))

-- no bytes are lost
pub whole : {file : ℕ} {inside last : Bool} {front text end left : List ℕ} {list : List Lexeme} → Reaches file inside front text list last end left → front ++ text ≡ end ++ left
whole here = refl
whole (gap {front = front} part rest e g d) = ap (λ t. front ++ t) e ∙ (sym (append_assoc front part rest) ∙ whole d)
whole (token {front = front} kind part rest e t d) = ap (λ t. front ++ t) e ∙ (sym (append_assoc front part rest) ∙ whole d)
whole (contract {front = front} kind blank rest c d) = ap (λ t. front ++ t) c.spelled ∙ (sym (append_assoc front (head_of kind blank) rest) ∙ whole d)

-- one more gap, one more token, one more contract line
pub then_gap : {file : ℕ} {inside last : Bool} {front text end left : List ℕ} {list : List Lexeme} (part rest : List ℕ) → Reaches file inside front text list last end left
    → left ≡ part ++ rest → IsGap part rest → Reaches file inside front text list (stays last left) (end ++ part) rest
then_gap part rest here e g = gap part rest e g here
then_gap part rest (gap p r z h d) e g = gap p r z h (then_gap part rest d e g)
then_gap part rest (token k p r z h d) e g = token k p r z h (then_gap part rest d e g)
then_gap part rest (contract k b r c d) e g = contract k b r c (then_gap part rest d e g)

pub then_token : {file : ℕ} {inside last : Bool} {front text end left : List ℕ} {list : List Lexeme} (kind : Kind) (part rest : List ℕ)
    → Reaches file inside front text list last end left → left ≡ part ++ rest → IsTokenHere last kind part rest
    → Reaches file inside front text (list ++ token_behind file end kind part ∷ []) last (end ++ part) rest
then_token kind part rest here e g = token kind part rest e g here
then_token kind part rest (gap p r z h d) e g = gap p r z h (then_token kind part rest d e g)
then_token kind part rest (token k p r z h d) e g = token k p r z h (then_token kind part rest d e g)
then_token kind part rest (contract k b r c d) e g = contract k b r c (then_token kind part rest d e g)

-- the two tokens that a contract line begins with
abbrev pub head_behind : ℕ → List ℕ → Kind → List ℕ → List Lexeme
head_behind file front kind blank =
    token_behind file front kinds.Contract (47 ∷ 47 ∷ 64 ∷ []) ∷ token_behind file (front ++ 47 ∷ 47 ∷ 64 ∷ blank) kind (contract_spelling kind) ∷ []

pub then_contract : {file : ℕ} {inside last : Bool} {front text end left : List ℕ} {list : List Lexeme} (kind : Kind) (blank rest : List ℕ)
    → Reaches file inside front text list last end left → IsContract left kind blank rest
    → Reaches file inside front text (list ++ head_behind file end kind blank) true (end ++ head_of kind blank) rest
then_contract kind blank rest here e = contract kind blank rest e here
then_contract kind blank rest (gap p r z h d) e = gap p r z h (then_contract kind blank rest d e)
then_contract kind blank rest (token k p r z h d) e = token k p r z h (then_contract kind blank rest d e)
then_contract kind blank rest (contract k b r c d) e = contract k b r c (then_contract kind blank rest d e)

-- of two ways from one place, one is the front of the other
pub record Goes (file : ℕ) (list : List Lexeme) (last : Bool) (end left : List ℕ) (other : List Lexeme) (final : Bool) (stop rest : List ℕ) : Type 0 where
  pub more : List Lexeme
  pub tokens : other ≡ list ++ more
  pub way : Reaches file last end left more final stop rest

moved : {file : ℕ} {inside last : Bool} {end left : List ℕ} {list : List Lexeme} (front part rest part' rest' : List ℕ) → part ≡ part' → rest ≡ rest'
    → Reaches file inside (front ++ part') rest' list last end left → Reaches file inside (front ++ part) rest list last end left
moved {file} {inside} {last} {end} {left} {list} front part rest part' rest' p r d =
    subst (λ (q : List ℕ). Reaches file inside (front ++ part) q list last end left) (sym r)
    (subst (λ (q : List ℕ). Reaches file inside (front ++ q) rest' list last end left) (sym p) d)

-- after equal tokens
behind : {file : ℕ} {last final : Bool} {end left stop rest : List ℕ} {list other : List Lexeme} (a b : Lexeme) → a ≡ b
    → Goes file list last end left other final stop rest ⊎ Goes file other final stop rest list last end left
    → Goes file (a ∷ list) last end left (b ∷ other) final stop rest ⊎ Goes file (b ∷ other) final stop rest (a ∷ list) last end left
behind {list = list} a b e (inl h) = inl (record { more = h.more; tokens = ap (λ t. b ∷ t) h.tokens ∙ ap (λ x. x ∷ list ++ h.more) (sym e); way = h.way })
behind {other = other} a b e (inr h) = inr (record { more = h.more; tokens = ap (λ t. a ∷ t) h.tokens ∙ ap (λ x. x ∷ other ++ h.more) e; way = h.way })

pub one_way : {file : ℕ} {inside last final : Bool} {front text end left stop rest : List ℕ} {list other : List Lexeme} → Reaches file inside front text list last end left
    → Reaches file inside front text other final stop rest → Goes file list last end left other final stop rest ⊎ Goes file other final stop rest list last end left
one_way {other = other} here d = inl (record { more = other; tokens = refl; way = d })
one_way {list = list} (gap p r e g d) here = inr (record { more = list; tokens = refl; way = gap p r e g d })
one_way {list = list} (token k p r e g d) here = inr (record { more = list; tokens = refl; way = token k p r e g d })
one_way {list = list} (contract k b r c d) here = inr (record { more = list; tokens = refl; way = contract k b r c d })
one_way (gap {front = front} p r e g d) (gap q s z h c) =
    let same = same_gap p q r s (sym e ∙ z) g h in
    one_way d (moved front p r q s same.0 same.1 c)
one_way (gap {inside = inside} p r e g d) (token k q s z h c) = absurd (gap_no_here inside p q r s k (sym e ∙ z) g h)
one_way (gap {text = text} p r e g d) (contract k b s h c) = absurd (contract_no_gap text p r (begins_contract text k b s h) e g)
one_way (token {inside = inside} k p r e g d) (gap q s z h c) = absurd (gap_no_here inside q p s r k (sym z ∙ e) h g)
one_way {file} (token {inside = inside} {front = front} k p r e g d) (token j q s z h c) =
    let same = same_here inside k j p q r s (sym e ∙ z) g h in
    let alike : token_behind file front k p ≡ token_behind file front j q = ap (λ x. token_behind file front x p) same.0 ∙ ap (λ x. token_behind file front j x) same.1 in
    behind (token_behind file front k p) (token_behind file front j q) alike (one_way d (moved front p r q s same.1 same.2 c))
one_way (token {inside = inside} {text = text} k p r e g d) (contract j b s h c) = absurd (contract_no_here inside text p r k (begins_contract text j b s h) e g)
one_way (contract {text = text} k b r g d) (gap q s z h c) = absurd (contract_no_gap text q s (begins_contract text k b r g) z h)
one_way (contract {inside = inside} {text = text} k b r g d) (token j q s z h c) = absurd (contract_no_here inside text q s j (begins_contract text k b r g) z h)
one_way {file} (contract {front = front} {text = text} k b r g d) (contract j q s h c) =
    let same = same_contract text k j b q r s g h in
    let heads : head_of k b ≡ head_of j q = ap (λ x. head_of x b) same.0 ∙ ap (λ x. head_of j x) same.1 in
    let words : word k b ≡ word j q = ap (λ x. word x b) same.0 ∙ ap (λ x. word j x) same.1 in
    let mark = token_behind file front kinds.Contract (47 ∷ 47 ∷ 64 ∷ []) in
    behind mark mark refl (behind (word k b) (word j q) words (one_way d (moved front (head_of k b) r (head_of j q) s heads same.2 c)))
  where
    word : Kind → List ℕ → Lexeme
    word kind blank = token_behind file (front ++ 47 ∷ 47 ∷ 64 ∷ blank) kind (contract_spelling kind)

-- an empty text has no parts
no_split : (part rest : List ℕ) → [] ≡ part ++ rest → 0 < length part → ⊥
no_split part rest e l = omega (arith, ap length e, length-append part rest, l)

at_end : {file : ℕ} {inside last : Bool} {front end left text : List ℕ} {list : List Lexeme} → text ≡ [] → Reaches file inside front text list last end left → list ≡ []
at_end z here = refl
at_end z (gap p r e g d) = absurd (no_split p r (sym z ∙ e) (gap_some p r g))
at_end z (token {inside = inside} k p r e g d) = absurd (no_split p r (sym z ∙ e) (here_some inside k p r g))
at_end z (contract k b r c d) = absurd (no_split (head_of k b) r (sym z ∙ c.spelled) (omega arith))

pub one_list : (file : ℕ) (bytes : List ℕ) (a b : List Lexeme) → Spells file bytes a → Spells file bytes b → a ≡ b
one_list file bytes a b d c = go (one_way d.1 c.1)
  where
    go : Goes file a d.0 bytes [] b c.0 bytes [] ⊎ Goes file b c.0 bytes [] a d.0 bytes [] → a ≡ b
    go (inl h) = sym (h.tokens ∙ (ap (λ t. a ++ t) (at_end refl h.way) ∙ append-nil a))
    go (inr h) = h.tokens ∙ (ap (λ t. b ++ t) (at_end refl h.way) ∙ append-nil b)

-- where a rule is broken no way leads on
no_way : {file : ℕ} {inside last : Bool} {front text end left : List ℕ} {list : List Lexeme} (rule : LexRule) → BreaksHere inside rule text → Reaches file inside front text list last end left
    → length end ≤ length front
no_way rule h here = omega arith
no_way rule h (gap {inside = inside} {text = text} p r e g d) = absurd (stuck_gap inside rule text p r h e g)
no_way rule h (token {inside = inside} {text = text} k p r e g d) = absurd (stuck_here inside rule text p r k h e g)
no_way rule h (contract {inside = inside} {text = text} k b r c d) = absurd (stuck_contract inside rule text k b r h c)

-- so none is broken before a place that was reached
pub none_before : {file : ℕ} {inside last final : Bool} {front text end left stop rest : List ℕ} {list other : List Lexeme} (rule : LexRule) → Reaches file inside front text list last end left
    → Reaches file inside front text other final stop rest → BreaksHere final rule rest → length end ≤ length stop
none_before {file} {inside} {last} {final} {front} {text} {end} {left} {stop} {rest} {list} {other} rule d c h = go (one_way d c)
  where
    go : Goes file list last end left other final stop rest ⊎ Goes file other final stop rest list last end left → length end ≤ length stop
    go (inl g) = onward g.way
    go (inr g) = no_way rule h g.way
