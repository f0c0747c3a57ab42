-- Under which name an item stands.
use Rattle.std.specs.Prelude.{◌≡◌, ℕ, List, [], Option, Some, None, Result, IfOk}
use Rattle.std.specs.Option.{option_map_or}
use Rattle.std.proofs.Common.{ap, sym, subst, ◌∙◌}
use Rattle.perm_catalog.specs.Contents.{Contents}
use Rattle.perm_values.specs.declared.no_memory.NoMemory.{NoMemory}
use Rattle.sql_tree.specs.declared.name.Name.{Name}
use Rattle.sql_tree.specs.declared.query.QueryTree.{QueryTree}
use Rattle.sql_tree.specs.declared.source.FromSource.{FromSource}
use Rattle.sql_tree.specs.declared.source.FromSource.TheVariants as source
use Rattle.name_meaning.specs.Froms.{SourcePart, label_of}
use Rattle.name_meaning.specs.Trees.{source_of}
use Rattle.name_meaning.proofs.Equations.{token, fromsource-inner, fromsource-named}

pub label-named : (c : Contents) (from : FromSource) (alias : Option Name) (name : Name) → from ≡ source.Named name → label_of (source_of c from) alias ≡ name.text
unfolding token
label-named c from alias name is = ap (λ (part : SourcePart). label_of part alias) (ap (source_of c) is ∙ fromsource-named c name)

label-inner : (c : Contents) (from : FromSource) (alias : Option Name) (query : QueryTree) → from ≡ source.Inner query
    → label_of (source_of c from) alias ≡ option_map_or (λ (name : Name). name.text) alias []
unfolding token
label-inner c from alias query is = ap (λ (part : SourcePart). label_of part alias) (ap (source_of c) is ∙ fromsource-inner c query)

pub label-alias : (c : Contents) (from : FromSource) (alias : Option Name) (query : QueryTree) (name : Name) → from ≡ source.Inner query → alias ≡ Some name
    → label_of (source_of c from) alias ≡ name.text
label-alias c from alias query name is some =
    label-inner c from alias query is ∙ ap (λ (alias : Option Name). option_map_or (λ (name : Name). name.text) alias []) some

pub label-none : (c : Contents) (from : FromSource) (alias : Option Name) (query : QueryTree) → from ≡ source.Inner query → alias ≡ None → label_of (source_of c from) alias ≡ []
label-none c from alias query is none =
    label-inner c from alias query is ∙ ap (λ (alias : Option Name). option_map_or (λ (name : Name). name.text) alias []) none

pub text-so : (result : Result (List ℕ) NoMemory) (a b : List ℕ) → b ≡ a → IfOk result (λ text. text ≡ a) → IfOk result (λ text. text ≡ b)
text-so result a b e given = subst (λ (whole : List ℕ). IfOk result (λ text. text ≡ whole)) (sym e) given
