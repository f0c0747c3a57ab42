-- The lines that name the rule which a record of a file breaks, worked out.
use Rattle.std.specs.Prelude.{◌≡◌, refl, codes}
use Rattle.std.specs.Fmt.{digits}
use Rattle.csv_tables.specs.declared.data_error.DataError.TheVariants as rule
use Rattle.csv_tables.specs.Lines.{data_line}

line_of_width : data_line (rule.Width 1) ≡ codes "error E42 record 1\n"
unfolding digits
line_of_width = refl

line_of_integer : data_line (rule.NotInteger 2 1) ≡ codes "error E43 record 2 field 1\n"
unfolding digits
line_of_integer = refl

line_of_text : data_line (rule.NotText 3 2) ≡ codes "error E44 record 3 field 2\n"
unfolding digits
line_of_text = refl
