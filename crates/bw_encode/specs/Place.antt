-- The state of the csv crate's reader at a place in a text.
use Rattle.csv.specs.declared.parser.Action.{Action as CsvAction}
use Rattle.csv.specs.declared.parser.Action.TheVariants as act
use Rattle.csv.specs.declared.parser.State.{State}
use Rattle.csv.specs.declared.parser.State.TheVariants as st
use Rattle.bw_encode.specs.declared.place.Place.{Place}
use Rattle.bw_encode.specs.declared.place.Place.TheVariants as place
use Rattle.bw_encode.specs.declared.place.Action.{Action}
use Rattle.bw_encode.specs.declared.place.Action.TheVariants as does

abbrev pub state_of : Place → State
state_of place.Before = st.StartRecord
state_of place.Returned = st.AfterCr
state_of place.Comment = st.InComment
state_of place.Front = st.StartField
state_of place.Bare = st.InField
state_of place.Quoted = st.InQuoted
state_of place.Escaped = st.InEscape
state_of place.Closed = st.AfterQuote

abbrev pub action_of : Action → CsvAction
action_of does.Joins = act.Copy
action_of does.Skips = act.Skip
action_of does.EndsField = act.EndField
action_of does.EndsRecord = act.EndRecord
