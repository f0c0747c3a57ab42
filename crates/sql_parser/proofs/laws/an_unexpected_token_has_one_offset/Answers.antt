use Rattle.std.proofs.Common.{◌≡◌, List, [], ◌∷◌, ◌++◌, subst, sym, ap, ◌∙◌, append-nil, append_assoc}
use Rattle.sql_lexer.specs.declared.token.Token.{Token}
use Rattle.sql_tree.specs.grammar.FirstWrong.{IsBegun, IsWrongAt}
use Rattle.sql_tree.specs.grammar.Grammar.{sql}
use Rattle.sql_tree.specs.grammar.Rules.{symbol, Spelled}
use Rattle.sql_tree.specs.grammar.Symbols.{ScriptOf}
use Rattle.sql_parser.specs.Spells.{offset_in}
use Rattle.sql_parser.proofs.laws.an_unexpected_token_has_one_offset.Goals as goal

abbrev Begun : List Token → Type 0
Begun us = IsBegun sql (symbol ScriptOf) us

abbrev Wrong : List Token → List Token → Type 0
Wrong us rest = IsWrongAt sql (symbol ScriptOf) us rest

-- where tokens begin a script, so do those before one of them and it
shorter : (us : List Token) (t : Token) (more : List Token) → Begun (us ++ t ∷ more) → Begun (us ++ t ∷ [])
shorter us t more begun = (
  more ++ begun.0,
  begun.1,
  subst (λ l. Spelled sql (symbol ScriptOf) l begun.1)
      (append_assoc us (t ∷ more) begun.0 ∙ sym (append_assoc us (t ∷ []) (more ++ begun.0))) begun.2,
)

-- some tokens before two lists that begin with the first wrong token
same : (us before other wrong rest : List Token) → before ++ wrong ≡ other ++ rest → Begun (us ++ before) → Begun (us ++ other)
    → Wrong (us ++ before) wrong → Wrong (us ++ other) rest → wrong ≡ rest
same us [] [] wrong rest e a b c d = e
same us [] (t ∷ other) wrong rest e a b c d =
    absurd (subst (λ l. Wrong l (t ∷ (other ++ rest))) (append-nil us) (subst (Wrong (us ++ [])) e c) (shorter us t other b))
same us (t ∷ before) [] wrong rest e a b c d =
    absurd (subst (λ l. Wrong l (t ∷ (before ++ wrong))) (append-nil us) (subst (Wrong (us ++ [])) (sym e) d) (shorter us t before a))
same us (t ∷ before) (u ∷ other) wrong rest e a b c d =
    let head : u ≡ t = cc in
    let tail : before ++ wrong ≡ other ++ rest = cc in
    let behind : (l : List Token) → us ++ t ∷ l ≡ (us ++ t ∷ []) ++ l = λ l. sym (append_assoc us (t ∷ []) l) in
    let there : us ++ u ∷ other ≡ (us ++ t ∷ []) ++ other = ap (λ v. us ++ v ∷ other) head ∙ behind other in
    same (us ++ t ∷ []) before other wrong rest tail (subst Begun (behind before) a) (subst Begun there b)
    (subst (λ l. Wrong l wrong) (behind before) c) (subst (λ l. Wrong l rest) there d)

pub returns : goal.returns
returns c = λ tokens length a b x y.
    let wrong : x.wrong ≡ y.wrong =
    same [] x.first.before y.first.before x.wrong y.wrong (sym x.first.splits ∙ y.first.splits) x.first.begun y.first.begun x.first.wrong y.first.wrong in
    x.offset ∙ ap (offset_in length) wrong ∙ sym y.offset
