-- The machine takes only derivable tokens.
use Rattle.std.proofs.Common.{◌≡◌, ◌++◌, List, [], ◌∷◌, Option, Some, refl, sym}
use Rattle.std.proofs.Math.Path.{subst}
use Rattle.kr_base.specs.declared.place.Place.{Place}
use Rattle.kr_lex.specs.Lexemes.{Lexeme}
use Rattle.kr_ast.specs.Tree.{Tree}
use Rattle.kr_parse_grammar.specs.declared.terminal.Terminal.TheVariants as terminals
use Rattle.kr_parse_grammar.specs.declared.value.Form.{Form}
use Rattle.kr_parse_grammar.specs.declared.value.Form.TheVariants as forms
use Rattle.kr_parse_grammar.specs.declared.goal.Goal.{Goal}
use Rattle.kr_parse_grammar.specs.declared.goal.Goal.TheVariants as goals
use Rattle.kr_parse_grammar.specs.declared.goal.Symbol.{Symbol}
use Rattle.kr_parse_grammar.specs.declared.goal.Symbol.TheVariants.{Want}
use Rattle.kr_parse_grammar.specs.Values.{StackItem, part, tag}
use Rattle.kr_parse_grammar.specs.Machine.{ahead, rule}
use Rattle.kr_parse_grammar.specs.Grammar as grammar
use Rattle.kr_parse_grammar.specs.Grammar.{Der}
use Rattle.kr_parse_laws.proofs.SoundKinds.{Kinds}
use Rattle.kr_parse_laws.proofs.SoundMeanings.{Den, DenOf}
use Rattle.kr_parse_laws.proofs.SoundSteps.{onto}
use Rattle.kr_parse_grammar.specs.Machine.{Runs, done, take, keep, name, leaf, spell, want, build, start}
use Rattle.kr_parse_grammar.specs.Grammar.{Derives}
use Rattle.kr_parse_grammar.specs.Made.{literal}
use Rattle.kr_parse_laws.specs.Laws.{Soundness}
use Rattle.kr_parse_laws.proofs.SoundKinds.{kind_of}
use Rattle.kr_parse_laws.proofs.SoundExpressions.{means_arguments, means_more_arguments, means_primary, means_primary_name, means_suffixes, means_selected, means_creator, means_creator_name, means_creator_argument, means_object_creation, means_array_length, means_unary, means_unsigned, means_postfixes, means_operators, means_after_operation, means_conditional, means_after_unary, means_expression}
use Rattle.kr_parse_laws.proofs.SoundTypes.{means_type, means_type_name, means_type_tail, means_dimensions, means_extended, means_class_tail}
use Rattle.kr_parse_laws.proofs.SoundEnclosed.{means_closing, means_in_parentheses, means_primitive_cast, means_enclosed_name, means_enclosed_bracket, means_enclosed_primary, means_after_enclosed_name, means_after_chain}
use Rattle.kr_parse_laws.proofs.SoundTested.{means_chain_argument, means_chain_name, means_chain_bracket, means_chain_primary, means_chain_greater, means_chain_closing, means_tested, means_tested_name, means_after_tested}
use Rattle.kr_parse_laws.proofs.SoundStatements.{means_initialiser, means_more_declarators, means_after_local_name, means_item, means_item_name, means_item_bracket, means_statement_expression, means_after_statement_primary, means_block_statement, means_statements, means_statement, means_optional_expression, means_else_part, means_catch, means_catches, means_caught_parameter, means_for_initial, means_more_initial, means_for_updates, means_more_updates}
use Rattle.kr_parse_laws.proofs.SoundMembers.{means_parameters, means_parameter, means_more_parameters, means_constructor_body, means_after_super, means_contracted_method, means_contract, means_thrown_name, means_contracts, means_method_ahead, means_method, means_field_or_method, means_member_name, means_member, means_members, means_class_ahead, means_classes, means_dotted, means_imported, means_imports, means_file}

means : (g : Goal) (vs : List StackItem) (ss : List Symbol) (i : List Lexeme) (ws : List StackItem) → DenOf (rule g (ahead i) (tag vs)) ss vs i ws → Den (Want g ∷ ss) vs i ws
means goals.File vs ss i ws d = means_file (ahead i) (tag vs) vs ss i ws d
means goals.Dotted vs ss i ws d = means_dotted (ahead i) (tag vs) vs ss i ws d
means goals.Imports vs ss i ws d = means_imports (ahead i) (tag vs) vs ss i ws d
means goals.Imported vs ss i ws d = means_imported (ahead i) (tag vs) vs ss i ws d
means goals.Classes vs ss i ws d = means_classes (ahead i) (tag vs) vs ss i ws d
means goals.ClassAhead vs ss i ws d = means_class_ahead (ahead i) (tag vs) vs ss i ws d
means goals.Extended vs ss i ws d = means_extended (ahead i) (tag vs) vs ss i ws d
means goals.ClassTail vs ss i ws d = means_class_tail (ahead i) (tag vs) vs ss i ws d
means goals.Members vs ss i ws d = means_members (ahead i) (tag vs) vs ss i ws d
means goals.Member vs ss i ws d = means_member (ahead i) (tag vs) vs refl ss i ws d
means goals.MemberName vs ss i ws d = means_member_name (ahead i) (tag vs) vs refl ss i ws d
means goals.Contracts vs ss i ws d = means_contracts (ahead i) (tag vs) vs ss i ws d
means goals.Contract vs ss i ws d = means_contract (ahead i) (tag vs) vs ss i ws d
means goals.ThrownName vs ss i ws d = means_thrown_name (ahead i) (tag vs) vs ss i ws d
means goals.MethodAhead vs ss i ws d = means_method_ahead (ahead i) (tag vs) vs ss i ws d
means goals.ContractedMethod vs ss i ws d = means_contracted_method (ahead i) (tag vs) vs ss i ws d
means goals.Method vs ss i ws d = means_method (ahead i) (tag vs) vs ss i ws d
means goals.FieldOrMethod vs ss i ws d = means_field_or_method (ahead i) (tag vs) vs ss i ws d
means goals.Parameters vs ss i ws d = means_parameters (ahead i) (tag vs) vs ss i ws d
means goals.Parameter vs ss i ws d = means_parameter (ahead i) (tag vs) vs ss i ws d
means goals.MoreParameters vs ss i ws d = means_more_parameters (ahead i) (tag vs) vs ss i ws d
means goals.ConstructorBody vs ss i ws d = means_constructor_body (ahead i) (tag vs) vs ss i ws d
means goals.AfterSuper vs ss i ws d = means_after_super (ahead i) (tag vs) vs ss i ws d
means goals.Type vs ss i ws d = means_type (ahead i) (tag vs) vs ss i ws d
means goals.TypeName vs ss i ws d = means_type_name (ahead i) (tag vs) vs ss i ws d
means goals.TypeTail vs ss i ws d = means_type_tail (ahead i) (tag vs) vs ss i ws d
means goals.Dimensions vs ss i ws d = means_dimensions (ahead i) (tag vs) vs ss i ws d
means goals.Initialiser vs ss i ws d = means_initialiser (ahead i) (tag vs) vs ss i ws d
means goals.MoreDeclarators vs ss i ws d = means_more_declarators (ahead i) (tag vs) vs ss i ws d
means goals.AfterLocalName vs ss i ws d = means_after_local_name (ahead i) (tag vs) vs ss i ws d
means goals.Statements vs ss i ws d = means_statements (ahead i) (tag vs) vs ss i ws d
means goals.BlockStatement vs ss i ws d = means_block_statement (ahead i) (tag vs) vs ss i ws d
means goals.Item vs ss i ws d = means_item (ahead i) (tag vs) vs ss i ws d
means goals.ItemName vs ss i ws d = means_item_name (ahead i) (tag vs) vs refl ss i ws d
means goals.ItemBracket vs ss i ws d = means_item_bracket (ahead i) (tag vs) vs ss i ws d
means goals.Statement vs ss i ws d = means_statement (ahead i) (tag vs) vs ss i ws d
means goals.OptionalExpression vs ss i ws d = means_optional_expression (ahead i) (tag vs) vs ss i ws d
means goals.ElsePart vs ss i ws d = means_else_part (ahead i) (tag vs) vs ss i ws refl d
means goals.Catch vs ss i ws d = means_catch (ahead i) (tag vs) vs ss i ws d
means goals.Catches vs ss i ws d = means_catches (ahead i) (tag vs) vs ss i ws d
means goals.CaughtParameter vs ss i ws d = means_caught_parameter (ahead i) (tag vs) vs ss i ws d
means goals.ForInitial vs ss i ws d = means_for_initial (ahead i) (tag vs) vs ss i ws d
means goals.MoreInitial vs ss i ws d = means_more_initial (ahead i) (tag vs) vs refl ss i ws d
means goals.ForUpdates vs ss i ws d = means_for_updates (ahead i) (tag vs) vs ss i ws d
means goals.MoreUpdates vs ss i ws d = means_more_updates (ahead i) (tag vs) vs ss i ws d
means goals.StatementExpression vs ss i ws d = means_statement_expression (ahead i) (tag vs) vs ss i ws d
means goals.AfterStatementPrimary vs ss i ws d = means_after_statement_primary (ahead i) (tag vs) vs refl ss i ws d
means goals.Primary vs ss i ws d = means_primary (ahead i) (tag vs) vs ss i ws d
means goals.PrimaryName vs ss i ws d = means_primary_name (ahead i) (tag vs) vs ss i ws d
means goals.Creator vs ss i ws d = means_creator (ahead i) (tag vs) vs ss i ws d
means goals.CreatorName vs ss i ws d = means_creator_name (ahead i) (tag vs) vs refl ss i ws d
means goals.CreatorArgument vs ss i ws d = means_creator_argument (ahead i) (tag vs) vs ss i ws d
means goals.ObjectCreation vs ss i ws d = means_object_creation (ahead i) (tag vs) vs ss i ws d
means goals.ArrayLength vs ss i ws d = means_array_length (ahead i) (tag vs) vs ss i ws d
means goals.Suffixes vs ss i ws d = means_suffixes (ahead i) (tag vs) vs refl ss i ws d
means goals.Selected vs ss i ws d = means_selected (ahead i) (tag vs) vs ss i ws d
means goals.Arguments vs ss i ws d = means_arguments (ahead i) (tag vs) vs ss i ws d
means goals.MoreArguments vs ss i ws d = means_more_arguments (ahead i) (tag vs) vs ss i ws d
means goals.Expression vs ss i ws d = means_expression (ahead i) (tag vs) vs ss i ws d
means goals.AfterUnary vs ss i ws d = means_after_unary (ahead i) (tag vs) vs refl ss i ws d
means goals.AfterOperation vs ss i ws d = means_after_operation (ahead i) (tag vs) vs ss i ws d
means goals.Conditional vs ss i ws d = means_conditional (ahead i) (tag vs) vs ss i ws d
means goals.Unary vs ss i ws d = means_unary (ahead i) (tag vs) vs ss i ws d
means goals.Unsigned vs ss i ws d = means_unsigned (ahead i) (tag vs) vs ss i ws d
means goals.Postfixes vs ss i ws d = means_postfixes (ahead i) (tag vs) vs ss i ws d
means (goals.Operators n x) vs ss i ws d = means_operators n x (ahead i) (tag vs) vs ss i ws d
means goals.InParentheses vs ss i ws d = means_in_parentheses (ahead i) (tag vs) vs ss i ws d
means goals.PrimitiveCast vs ss i ws d = means_primitive_cast (ahead i) (tag vs) vs ss i ws d
means goals.EnclosedName vs ss i ws d = means_enclosed_name (ahead i) (tag vs) vs refl ss i ws d
means goals.EnclosedBracket vs ss i ws d = means_enclosed_bracket (ahead i) (tag vs) vs ss i ws d
means goals.EnclosedPrimary vs ss i ws d = means_enclosed_primary (ahead i) (tag vs) vs ss i ws d
means goals.Closing vs ss i ws d = means_closing (ahead i) (tag vs) vs ss i ws d
means goals.AfterEnclosedName vs ss i ws d = means_after_enclosed_name (ahead i) (tag vs) vs ss i ws d
means goals.AfterChain vs ss i ws d = means_after_chain (ahead i) vs ss i ws d
means goals.ChainArgument vs ss i ws d = means_chain_argument (ahead i) (tag vs) vs ss i ws d
means goals.ChainName vs ss i ws d = means_chain_name (ahead i) (tag vs) vs refl ss i ws d
means goals.ChainBracket vs ss i ws d = means_chain_bracket (ahead i) (tag vs) vs ss i ws d
means goals.ChainPrimary vs ss i ws d = means_chain_primary (ahead i) (tag vs) vs ss i ws d
means goals.ChainGreater vs ss i ws d = means_chain_greater (ahead i) (tag vs) vs ss i ws d
means goals.ChainClosing vs ss i ws d = means_chain_closing (ahead i) vs ss i ws d
means goals.Tested vs ss i ws d = means_tested (ahead i) (tag vs) vs ss i ws d
means goals.TestedName vs ss i ws d = means_tested_name (ahead i) (tag vs) vs refl ss i ws d
means goals.AfterTested vs ss i ws d = means_after_tested (ahead i) vs ss i ws d

den_of : (o : Option (List Symbol)) (body ss : List Symbol) (vs : List StackItem) (i : List Lexeme) (ws : List StackItem) → o ≡ Some body → Den (body ++ ss) vs i ws → DenOf o ss vs i ws
den_of o body ss vs i ws e d = subst (λ x. DenOf x ss vs i ws) (sym e) d

literal_of_token : (a : Lexeme) (r : List Lexeme) → Kinds terminals.Literal a.kind → Der (grammar.Primary forms.Other) (a ∷ r) (literal a) r
literal_of_token a r h = h a r refl

-- the machine takes only tokens that its symbols denote
sound : {ss : List Symbol} {vs ws : List StackItem} {i : List Lexeme} → Runs ss vs i ws → Den ss vs i ws
sound done = (refl, refl)
sound (take {i = i} {k = k} a p d) = (a, i, refl, kind_of a.kind k p, sound d)
sound (keep {i = i} {k = k} a p d) = (a, i, refl, kind_of a.kind k p, sound d)
sound (name {i = i} a p d) = (a, i, refl, kind_of a.kind terminals.Identifier p, sound d)
sound (leaf {i = i} a p d) = (a, i, refl, literal_of_token a i (kind_of a.kind terminals.Literal p), sound d)
sound (spell {i = i} a p z d) = (a, i, refl, kind_of a.kind terminals.Identifier p, z, sound d)
sound (want {ss = ss} {vs = vs} {ws = ws} {i = i} {g = g} body e d) = means g vs ss i ws (den_of (rule g (ahead i) (tag vs)) body ss vs i ws e (sound d))
sound (build d) = sound d

-- tokens that the machine accepts are derivable
pub soundness : Soundness
soundness i ws d = go (sound d)
  where
    go : Den start [] i ws → (p : Place) × (f : Form) × (t : Tree) × (ws ≡ part p f t ∷ []) × Derives i t
    go (p, f, t, r, (j, h, c), (e, z)) = (p, f, t, sym z, (j, h, onto e c))
