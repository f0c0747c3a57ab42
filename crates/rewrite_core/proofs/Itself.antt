-- A plain query stands for itself.
use Rattle.std.proofs.Common.{◌≡◌, ℕ, true, List, refl, ◌∙◌}
use Rattle.perm_values.specs.declared.kind.Kind.{Kind}
use Rattle.bag_algebra.proofs.Outcomes.{same_rows-itself}
use Rattle.bag_algebra.proofs.TablesRead.{reads_among-itself, reads_among-onward, reads_among-fit}
use Rattle.bag_algebra.specs.Bags.{Bag}
use Rattle.bag_algebra.specs.Meaning.{meaning}
use Rattle.bag_algebra.specs.Outcome.{Outcome, Good, Bad}
use Rattle.bag_algebra.specs.Rewriting.{is_plain, Stands, SameRows}
use Rattle.bag_algebra.specs.declared.query.Query.{Query}
use Rattle.bag_algebra.specs.declared.query.Query.TheVariants.{Table, Single}

pub stands-itself : (q : Query) → is_plain q ≡ true → Stands q q
stands-itself q plain = record {
  plain = plain;
  kinds = λ outer f. refl;
  formed = λ outer f. f;
  tables = reads_among-itself q;
  rows = λ outer db env formed fits env_fitting. same_rows-itself (meaning q db env);
}

pub stands-Table : (id : ℕ) (kinds : List Kind) → Stands (Table id kinds) (Table id kinds)
stands-Table id kinds = stands-itself (Table id kinds) refl

pub stands-Single : Stands Single Single
stands-Single = stands-itself Single refl

-- ---- what stands for what stands for a query stands for the query

same_rows-onward : (o s r : Outcome Bag) → SameRows o s → SameRows s r → SameRows o r
same_rows-onward (Good us) (Good vs) (Good ws) a b = record { counts = λ t. a.counts t ∙ b.counts t }
same_rows-onward (Good us) (Good vs) (Bad h) a b = b
same_rows-onward (Good us) (Bad g) r a b = absurd a
same_rows-onward (Bad f) (Good vs) r a b = absurd a
same_rows-onward (Bad f) (Bad g) (Good ws) a b = b
same_rows-onward (Bad f) (Bad g) (Bad h) a b = a ∙ b

pub stands-onward : (q b c : Query) → Stands q b → Stands b c → Stands q c
stands-onward q b c s t = record {
  plain = t.plain;
  kinds = λ outer f. t.kinds outer (s.formed outer f) ∙ s.kinds outer f;
  formed = λ outer f. t.formed outer (s.formed outer f);
  tables = reads_among-onward c b q t.tables s.tables;
  rows = λ outer db env f fits env_fitting.
      same_rows-onward (meaning q db env) (meaning b db env) (meaning c db env) (s.rows outer db env f fits env_fitting)
      (t.rows outer db env (s.formed outer f) (reads_among-fit b q db s.tables fits) env_fitting);
}
