use Rattle.stored_provenance.proofs.Soundness.{sound-empty}
use Rattle.stored_provenance.proofs.SoundTables.{sound-created, sound-more_rows, sound-fewer_rows, sound-dropped_table}
use Rattle.stored_provenance.proofs.SoundViews.{sound-more_views, sound-dropped_view}
use Rattle.stored_provenance.proofs.catalog.catalogs_stay_sound.Goals as goal

pub returns-clause-new : goal.returns-clause-new
returns-clause-new c = sound-empty

pub returns-clause-create : goal.returns-clause-create
returns-clause-create c = sound-created

pub returns-clause-insert_rows : goal.returns-clause-insert_rows
returns-clause-insert_rows c = sound-more_rows

pub returns-clause-delete_rows : goal.returns-clause-delete_rows
returns-clause-delete_rows c = sound-fewer_rows

pub returns-clause-add_view : goal.returns-clause-add_view
returns-clause-add_view c = sound-more_views

pub returns-clause-drop_table : goal.returns-clause-drop_table
returns-clause-drop_table c = sound-dropped_table

pub returns-clause-drop_view : goal.returns-clause-drop_view
returns-clause-drop_view c = sound-dropped_view
