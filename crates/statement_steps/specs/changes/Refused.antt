-- Why a statement is refused whose change the catalog refuses.
use Rattle.std.specs.Prelude.{ℕ}
use Rattle.perm_catalog.specs.declared.catalog.CatalogRefusal.{CatalogRefusal}
use Rattle.perm_catalog.specs.declared.catalog.CatalogRefusal.TheVariants as catalog
use Rattle.name_meaning.specs.Meanings.{broken}
use Rattle.name_meaning.specs.declared.rule.Rule.TheVariants.{NumbersSpent}
use Rattle.statement_meaning.specs.declared.refusal.StepRefusal.{StepRefusal}
use Rattle.statement_meaning.specs.declared.refusal.StepRefusal.TheVariants as refusal

-- for a statement at this offset
abbrev pub refused : ℕ → CatalogRefusal → StepRefusal
refused at catalog.VersionsSpent = refusal.Break (broken NumbersSpent at)
refused at catalog.NoMemory = refusal.NoMemory
