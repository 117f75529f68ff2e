-- Tuples, and closures by what they capture, may go to another thread where each of their parts may.
use mathlib.Core.List.{List, [], ◌∷◌}
use mir.Syntax.{Sym}
use denote.RattleType.{RattleType}
use denote.Struct.Field.{row_field}
use denote.Struct.Tuple.{TupleAt, parts, type_at}
use denote.Param.Send.{IsSend, AllSend}
use denote.Param.SendFields.{FieldsHave, as_row_send, declared_send}

parts_send : (Ts : List RattleType) → AllSend Ts → FieldsHave IsSend (parts Ts)
parts_send [] sends = tt
parts_send (T ∷ Ts) sends = (as_row_send (row_field T) sends.0, parts_send Ts sends.1)

pub tuple_send : (name : Sym) (Ts : List RattleType) → AllSend Ts → IsSend (TupleAt name Ts)
tuple_send name Ts sends = declared_send (type_at name Ts) (parts_send Ts sends)
