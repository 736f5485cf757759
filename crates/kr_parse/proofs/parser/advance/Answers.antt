use Rattle.std.proofs.Common.{◌≡◌, ◌∷◌, ◌+◌, ◌*◌, ◌-◌, ◌<◌, ◌⊎◌, inl, inr, ℕ, List, length, sym, subst}
use Rattle.kr_parse_grammar.specs.declared.terminal.Terminal.{Terminal}
use Rattle.kr_parse_grammar.specs.declared.goal.Spelled.{Spelled}
use Rattle.kr_parse_grammar.specs.declared.goal.Symbol.{Symbol}
use Rattle.kr_parse_grammar.specs.declared.goal.Symbol.TheVariants.{Take, Keep, Word, Literal as Leaf, Spell}
use Rattle.kr_parse_grammar.specs.Values.{StackItem}
use Rattle.kr_parse_grammar.specs.State.{State, load}
use Rattle.kr_parse.specs.Refusals.{token_at}
use Rattle.kr_parse_trees.specs.Built.{values_of}
use Rattle.kr_parse.specs.Steps.{AsksToken, kept_of}
use Rattle.kr_parse.proofs.States.{fits_asks, least_token, viable, state_token, state_build, token_falls}
use Rattle.kr_parse.proofs.parser.advance.Goals as goal

asks : (s : Symbol) → ((k : Terminal) × (s ≡ Take k)) ⊎ (((k : Terminal) × (s ≡ Keep k)) ⊎ ((s ≡ Word) ⊎ ((s ≡ Leaf) ⊎ ((x : Spelled) × (s ≡ Spell x))))) → AsksToken s
asks s (inl (k, e)) = subst (λ (x : Symbol). AsksToken x) (sym e) tt
asks s (inr (inl (k, e))) = subst (λ (x : Symbol). AsksToken x) (sym e) tt
asks s (inr (inr (inl e))) = subst (λ (x : Symbol). AsksToken x) (sym e) tt
asks s (inr (inr (inr (inl e)))) = subst (λ (x : Symbol). AsksToken x) (sym e) tt
asks s (inr (inr (inr (inr (x, e))))) = subst (λ (x : Symbol). AsksToken x) (sym e) tt

pub dead-requires : goal.dead-requires
dead-requires c =
    least_token c.laws.ensures c.args.tokens.now c.args.cursor.now.at c.args.symbol c.args.stack.now (values_of c.args.builder.now) (asks c.args.symbol c.in-Take.is) c.requires.state
    c.requires.standing.shallow (c.is_expected.ensures.no c.if-not-is_expected.true)

pub step-requires : goal.step-requires
step-requires c =
    let ts = c.args.tokens.now in
    let at = c.args.cursor.now.at in
    let y = c.is_expected.ensures.yes c.if-not-is_expected.false in
    record {
      within = y.0;
      standing = c.requires.standing;
      viable = viable c.laws.ensures ts (at + 1) c.args.stack.now (kept_of c.args.symbol (token_at ts at) (values_of c.args.builder.now))
          (state_token c.laws.ensures ts at c.args.stack.now (values_of c.args.builder.now) c.args.symbol y.0 y.1 c.requires.state);
    }

pub returns-in_ok-build-in-Build-clause-state : goal.returns-in_ok-build-in-Build-clause-state
returns-in_ok-build-in-Build-clause-state c =
    let ts = c.args.tokens.now in
    let at = c.args.cursor.now.at in
    let vs = values_of c.args.builder.now in
    let h = subst (λ (s : Symbol). State ts.list at (s ∷ c.args.stack.now) vs) c.in-Build.is c.requires.state in
    subst (λ (ws : List StackItem). State ts.list at c.args.stack.now ws) (sym c.in_ok-build-in-Build.ensures.shown) (state_build c.laws.ensures ts at c.args.stack.now vs c.in-Build.make h)

pub returns-in_ok-keep-in-Take : goal.returns-in_ok-keep-in-Take
returns-in_ok-keep-in-Take c =
    let ts = c.args.tokens.now in
    let at = c.args.cursor.now.at in
    let ss = c.args.stack.now in
    let vs = values_of c.args.builder.now in
    let y = c.is_expected.ensures.yes c.if-not-is_expected.false in
    let e = c.in_ok-step-in-Take.ensures.onward in
    let h = state_token c.laws.ensures ts at ss vs c.args.symbol y.0 y.1 c.requires.state in
    let f = token_falls c.args.symbol ss at (length ts.list) (fits_asks c.args.symbol (token_at ts at) y.1) y.0 in
    record {
      standing = c.in_ok-step-in-Take.ensures.standing;
      built = c.in_ok-keep-in-Take.ensures.built;
      state = subst (λ (x : ℕ). State ts.list x ss (values_of c.keep.new.builder)) (sym e)
          (subst (λ (ws : List StackItem). State ts.list (at + 1) ss ws) (sym c.in_ok-keep-in-Take.ensures.shown) h);
      falls = subst (λ (x : ℕ). load ss + 100 * (length ts.list - x) < load (c.args.symbol ∷ ss) + 100 * (length ts.list - at)) (sym e) f;
      refused = tt;
    }
