-- Rows that begin with the columns of a node: its sublinks are there what they are on the node's own rows.
use Rattle.std.proofs.Common.{◌≡◌, true, List, [], ◌∷◌, ◌++◌, append_assoc, refl, sym, ap, ◌∙◌, subst}
use Rattle.std.proofs.lemmas.Bool.{and_from, and_parts}
use Rattle.perm_values.specs.declared.kind.Kind.{Kind}
use Rattle.perm_values.proofs.Steps.{by}
use Rattle.bag_algebra.proofs.Members.{IsIn}
use Rattle.bag_algebra.specs.Bags.{Row, Bag}
use Rattle.bag_algebra.specs.built.Forms.{AllSubsForm, SubsForm-row_of_subs}
use Rattle.bag_algebra.specs.built.Openings.{row_of_subs}
use Rattle.bag_algebra.specs.Children.{subs_denote}
use Rattle.bag_algebra.specs.Fits.{row_begins}
use Rattle.bag_algebra.specs.Kinds.{kinds_of, place_kinds, shape}
use Rattle.bag_algebra.specs.Meaning.{Database}
use Rattle.bag_algebra.specs.Means.{Witness, flat}
use Rattle.bag_algebra.specs.Rewriting.{IsRewrite}
use Rattle.bag_algebra.specs.WellFormed.{WellFormed}
use Rattle.bag_algebra.specs.declared.query.Query.{Query}
use Rattle.bag_algebra.specs.declared.query.Sublink.{Sublink}
use Rattle.contribution.proofs.AddedColumns.{columns-added, subs-same}
use Rattle.contribution.proofs.Growth.{env_fits-shorter}
use Rattle.contribution.proofs.LongerKinds.{NamesAlso, names-more, subs_form-longer}
use Rattle.contribution.specs.Longer.{more_lists, more_items}
use Rattle.query_laws.proofs.Contributed.{all_good, each_contributes-from, one_of_each}
use Rattle.query_laws.proofs.PairedLists.{OneOfEach}
use Rattle.query_laws.specs.SublinkLists.{EachContributes}
use Rattle.rewrite_core.proofs.FlatRows.{row-begins}
use Rattle.rewrite_core.proofs.KeptRows.{flat-append}
use Rattle.rewrite_sublink.proofs.Steps.{SubsFitting, Begun, HasValues}

pub names-begin : (columns more whole : List Kind) (outer : List (List Kind)) → whole ≡ columns ++ more → NamesAlso (columns ∷ outer) (whole ∷ outer)
names-begin columns more whole outer e = subst (λ ks. NamesAlso (columns ∷ outer) (ks ∷ outer)) (sym e) (names-more columns more outer)

-- a rewriting names what its query names
pub names-rewriting : (q r : Query) (outer : List (List Kind)) → IsRewrite q r → WellFormed outer q → NamesAlso (kinds_of q ∷ outer) (kinds_of r ∷ outer)
names-rewriting q r outer given formed = names-begin (kinds_of q) (place_kinds (shape q)) (kinds_of r) outer (given.kinds outer formed)

pub subs-named : (subs : List Sublink) (scopes longer : List (List Kind)) → NamesAlso scopes longer → AllSubsForm scopes subs → AllSubsForm longer subs
subs-named subs scopes longer names f =
    by (SubsForm-row_of_subs longer subs) (subs_form-longer (row_of_subs subs) scopes longer names (by (sym (SubsForm-row_of_subs scopes subs)) f))

pub row-begun : {columns : List Kind} {outer : List (List Kind)} {db : Database} {env : List Row} {rows : Query} {us : Bag} → Begun columns outer db env rows us →
    (b : Row) → IsIn b us → row_begins b columns ≡ true
row-begun {columns} {outer} {db} {env} {rows} {us} g b h =
    let all = subst (λ ks. row_begins b ks ≡ true) g.begins (row-begins outer rows db env g.fitting us g.good b h) in
    let first = env_fits-shorter (b ∷ []) (more_items columns g.more (more_lists [])) (and_from (row_begins b (columns ++ g.more)) true all refl) in
    (and_parts (row_begins b columns) true first).0

pub flat-behind : (b : Row) (c w : Witness) → b ++ flat c ++ flat w ≡ b ++ flat (c ++ w)
flat-behind b c w = append_assoc b (flat c) (flat w) ∙ ap (λ row. b ++ row) (sym (flat-append c w))

module _ {columns : List Kind} {outer : List (List Kind)} {subs : List Sublink} {db : Database} {env : List Row} (f : SubsFitting columns outer subs db env)
    (b : Row) (begins : row_begins b columns ≡ true) (values : HasValues db env subs b) (more : Row) where
  same : ((subs_denote subs db env).answers b ≡ (subs_denote subs db env).answers (b ++ more)) × ((subs_denote subs db env).contributions b ≡ (subs_denote subs db env).contributions (b ++ more))
  same = subs-same (columns ∷ outer) subs db b (b ++ more) env env (by (sym (SubsForm-row_of_subs (columns ∷ outer) subs)) f.form) (columns-added columns outer b more env begins)

  pub values-longer : HasValues db env subs (b ++ more)
  values-longer = (values.0, sym same.0 ∙ values.1)

  pub contributes-longer : (w : Witness) → EachContributes db env b subs w → EachContributes db env (b ++ more) subs w
  contributes-longer w h =
      each_contributes-from db env (b ++ more) subs w (all_good db env (b ++ more) subs values.0 (sym same.0 ∙ values.1))
      (subst (λ contributions. OneOfEach contributions w) same.1 (one_of_each db env b h))

  pub contributes-shorter : (w : Witness) → EachContributes db env (b ++ more) subs w → EachContributes db env b subs w
  contributes-shorter w h =
      each_contributes-from db env b subs w (all_good db env b subs values.0 values.1)
      (subst (λ contributions. OneOfEach contributions w) (sym same.1) (one_of_each db env (b ++ more) h))
