-- Where an expression and where a query stand.
use Rattle.std.specs.Prelude.{false, List}
use Rattle.perm_catalog.specs.Contents.{Contents}
use Rattle.sql_tree.specs.declared.expression.ExprTree.{ExprTree}
use Rattle.name_meaning.specs.Froms.{in_from}
use Rattle.name_meaning.specs.Meanings.{Surroundings, Around, means_at}
use Rattle.name_meaning.specs.Operands.{Operand}
use Rattle.name_meaning.specs.Trees.{part_of}
use Rattle.name_meaning.specs.declared.need.Need.{Need}
use Rattle.name_meaning.specs.declared.scope.Scope.{Scope}
use Rattle.name_seen_parts.specs.Named.{scopes_of}
use Rattle.name_seen_parts.specs.declared.standing.Around.{Around as Standpoint}
use Rattle.name_seen_parts.specs.declared.standing.Here.{Here}
use Rattle.name_seen_parts.specs.declared.standing.Standing.{Standing}

abbrev pub standing_in : List Scope → Standing → Surroundings
standing_in scopes standing = record {
  scopes = scopes;
  aggregates = standing.aggregates;
  sublinks = standing.sublinks;
  argument = standing.argument;
}

abbrev pub surroundings : Here → Surroundings
surroundings here = standing_in (scopes_of here.scopes.now) here.standing

abbrev pub around_of : Standpoint → Around
around_of around = record { outer = scopes_of around.outer.now; may_ask = around.may_ask }

-- where a subquery of FROM stands
abbrev pub around_in_from : Around → Around
around_in_from around = in_from around.outer

-- where a lateral subquery stands that sees these scopes
abbrev pub around_beside : List Scope → Around
around_beside scopes = record { outer = scopes; may_ask = false }

-- an operand as the definition sees it
abbrev pub operand_at : Contents → Surroundings → Need → ExprTree → Operand
operand_at c here need tree = record { at = tree.at; need = need; meant = means_at (part_of c tree) here }
