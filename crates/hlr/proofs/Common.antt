-- The names of crates below and of this crate's specs that proofs cite, passed on from one place. Declares nothing.
pub use Rattle.std.proofs.Common.{Bool, List, None, Option, Some, [], add-one, ap, append_assoc, arith, below_more, drop, false, get_or, inl, inr, length, length-append, length-take, min, refl, replicate, rules, subst, suc, sym, take, true, w64, zero, ℕ, ◌%◌, ◌*◌, ◌++◌, ◌+◌, ◌-◌, ◌/◌, ◌<◌, ◌^◌, ◌∙◌, ◌∷◌, ◌≡◌, ◌≢◌, ◌≤◌}
pub use Rattle.std.proofs.Math.Nat.{pow-le-pow_right, pow-suc}
pub use Rattle.std.proofs.lemmas.Bool.{false≢true}
pub use Rattle.std.proofs.lemmas.Bool.Decides.{nat_tests}
pub use Rattle.std.proofs.lemmas.Fmt.{decimal_digit, decimal_nonempty, decimal_step, length-decimal-le}
pub use Rattle.std.proofs.lemmas.Int.{to_z-of_z}
pub use Rattle.std.proofs.lemmas.List.{append-nil, drop_all, drop_more, ext_get_or, get_or-map, get_or-set_other, get_or-set_same, length-drop, length-map, length-replicate, length-set, take-append-drop, take-append-le, take-replicate, take-take, take_all, take_rest}
pub use Rattle.std.proofs.lemmas.List.Concat.{flat_map-append}
pub use Rattle.std.proofs.lemmas.List.Folds.{list_all_at, list_all_more}
pub use Rattle.std.proofs.lemmas.List.FromFn.{fill_by_all}
pub use Rattle.std.proofs.lemmas.Result.{IfOk-weaker, OkIff-at_ok, err_from_is_err_and}
pub use Rattle.std.proofs.lemmas.Slice.Eq.{text_from_reads}
pub use Rattle.std.proofs.lemmas.Str.Parse.{digits_value-take-le}
pub use Rattle.std.specs.Char.{digit_value, is_ascii_digit}
pub use Rattle.std.specs.Io.KnownBytes.{Appends, Keeps}
pub use Rattle.std.specs.List.{AllByRecursion, filter, flat_map, list_all, range_with_len}
pub use Rattle.std.specs.Prelude.{Err, IfSome, IsErrAnd, MatchResult, Ok, OnErr, OnOk, Result, codes, decimal, map, nat_le, nat_lt, not, option_map, slice_index, slice_set, ℤ, ⊤, ◌&&◌, ◌==◌, ◌||◌, ◌⊎◌}
pub use Rattle.std.specs.Result.{is_err}
pub use Rattle.std.specs.Str.Parse.{ExplainsUnsignedError, HasUnsignedDigitsIfOk, ParsesBool, ParsesUnsigned, digits_value, without_leading_plus}
pub use Rattle.std.specs.declared.num.ParseIntError.{ParseIntError}
pub use Rattle.std.specs.declared.str.ParseBoolError.{ParseBoolError}
pub use Rattle.arrayvec.specs.ArrayVec.{ArrayVec}
pub use Rattle.clap.proofs.WalkLemmas.{one_text-rows}
pub use Rattle.clap.specs.Simple.{app_of, app_of_fields}
pub use Rattle.clap.specs.Words.{App, FailsBy, HasKind, HasMatchesOf, Kinds, Rule, Text, fault_of, found_of, is_simple, is_simple_and_free, matches_of, new_app, one_of, one_text, rows_of, with_rule}
pub use Rattle.clap.specs.declared.error.Error.{Error}
pub use Rattle.clap.specs.declared.parser.matches.ArgMatches.{ArgMatches}
pub use Rattle.csv.proofs.ReadFacts.{reached-more}
pub use Rattle.csv.specs.Machine.{Read, next_record}
pub use Rattle.csv.specs.Reading.{AreRecords, NextIs, ReadsNext, default_config, strip_bom}
pub use Rattle.csv.specs.Records.{fields_of}
pub use Rattle.csv.specs.declared.parser.State.{State}
pub use Rattle.hlr_core.proofs.AtHomeLemmas.{same_at_home}
pub use Rattle.hlr_core.proofs.HomeLemmas.{home_to_all, still_home}
pub use Rattle.hlr_core.specs.Run.{IsRun}
pub use Rattle.hlr_core.specs.Step.{IsAskedStep, IsOwnedStep, IsStep, IsWholeOutcome, action_for, dissolved_reply, divided_reply, given_reply, posted_reply, reply_of, taken_reply}
pub use Rattle.hlr_core.specs.declared.event.Event.{Event}
pub use Rattle.hlr_core.specs.declared.event.Event.TheVariants.{AccessData, AddAccess, AddFacility, AddSubscriber, DeleteForwarding, Dissolve, Divide, Give, InsertForwarding, NewDestination, Post, SetActive, SetNumber, SubscriberData, Take, UpdateLocation, UpdateSubscriber}
pub use Rattle.hlr_core.specs.declared.event.Reply.{Reply}
pub use Rattle.hlr_core.specs.declared.order.Answer.{Answer}
pub use Rattle.hlr_core.specs.declared.order.Order.{Order}
pub use Rattle.hlr_kept.specs.Rows.{book_of, book_of_lines}
pub use Rattle.hlr_kept.specs.Runs.{IsOnDisk, StandsAfterSome}
pub use Rattle.hlr_kept.specs.UnderWay.{IsReady, IsUnchanged, IsUnderWay}
pub use Rattle.hlr_kept.specs.declared.journaled.Journaled.{Journaled}
pub use Rattle.hlr_owners.proofs.HomeLemmas.{cut_home_of_all, home_of_all}
pub use Rattle.hlr_owners.specs.Answered.{MayAnswer, is_loose}
pub use Rattle.hlr_owners.specs.Owners.{AllHome, OwnersState, store_in}
pub use Rattle.hlr_owners.specs.Posting.{IsPosting}
pub use Rattle.hlr_owners.specs.Recut.{IsRecut, IsRecutBy}
pub use Rattle.hlr_owners.specs.Store.{Store, slots_of}
pub use Rattle.hlr_workers.proofs.UnseenLemmas.{recut_unseen, seen_as, stands_unseen, step_unseen}
pub use Rattle.hlr_workers.specs.Standing.{Asked, Cut, Engaged, IsSettled, Stands, Took, TookNext, answers_with, events_in}
pub use Rattle.itoa.proofs.Decimal.{length_four, length_one, length_pair}
pub use Rattle.journal.specs.Lines.{HasFence, lines, text}
pub use Rattle.journal.specs.declared.tape.Tape.{Tape}
pub use Rattle.journal_file.specs.Device.{LeavesOnly}
pub use Rattle.journal_file.specs.declared.fault.JournalFault.{JournalFault}
pub use Rattle.mr_node.proofs.PageLemmas.{is_emptied}
pub use Rattle.mr_node.specs.Pages.{IsPage}
pub use Rattle.mr_node.specs.Rows.{key_of_pair}
pub use Rattle.number_index.specs.Pairs.{ArePairs}
pub use Rattle.part_table.specs.Dissolve.{dissolve_answer}
pub use Rattle.part_table.specs.Divide.{divide_answer}
pub use Rattle.part_table.specs.Give.{give_answer}
pub use Rattle.part_table.specs.Recut.{recut_answer}
pub use Rattle.part_table.specs.Take.{take_answer}
pub use Rattle.part_table.specs.declared.moves.CutMove.{CutMove}
pub use Rattle.part_table.specs.declared.region.Side.{Side}
pub use Rattle.tatp_actions.specs.Action.{s_id_of}
pub use Rattle.tatp_actions.specs.Book.{Book}
pub use Rattle.tatp_actions.specs.declared.action.Action.{Action}
pub use Rattle.tatp_actions.specs.declared.action.RowReply.{RowReply}
pub use Rattle.tatp_actions.specs.declared.cells.TheConstants.{CELLS}
pub use Rattle.tatp_rows.proofs.AppendLemmas.{each-left}
pub use Rattle.tatp_rows.proofs.NumberLemmas.{AreDigits, digits_more}
pub use Rattle.tatp_rows.proofs.OrderedLemmas.{by_test, each-weaker, filter_all}
pub use Rattle.tatp_rows.specs.Number.{IsNumber, number_text}
pub use Rattle.tatp_rows.specs.Ordered.{IsOrderedBy}
pub use Rattle.tatp_rows.specs.Spans.{keys_from}
pub use Rattle.tatp_rows.specs.declared.refusal.Refusal.{Refusal}
pub use Rattle.tatp_rows.specs.declared.refusal.Refusal.TheVariants.{Field, Syntax}
pub use Rattle.hlr.specs.Command.{Command}
pub use Rattle.hlr.specs.Fields.{number_field, number_fields, ◌>>=◌}
pub use Rattle.hlr.specs.Inside.{AddsAnswer, Answers, AreAnswered, AreBrokenOff, AskFor, HasAnswered, HasCome, HasComeTo, HasComeToEnd, HasTaken, IsAtRest, IsOwed, IsUnderway, WritesOwed, kind_of, replies_text, report_on, signed_at, with_sight, word_of_report}
pub use Rattle.hlr.specs.Journaled.{AreReadBy, RanJournaled, StandsFor, Wrote}
pub use Rattle.hlr.specs.JournaledInside.{AreCutOff, AreKept, AreSynced, HasComeKept, HasHeld, HasKept, JoinsAnswer, KeepsNext, Syncs, has_stopped}
pub use Rattle.hlr.specs.Lines.{bytes_text, decimals_text, hexes_text, number_line, numbers_text, ok_line, recut_line, region_line, reply_line, total_line}
pub use Rattle.hlr.specs.Options.{Spells, Tells, flag_text, journal_rule, parts_rule, program, snapshot_rule, threads_rule, with_version, zone_rule}
pub use Rattle.hlr.specs.Orders.{answer_in, order_of, orders_of, recut_answer_in, recut_order}
pub use Rattle.hlr.specs.Outgoing.{Adds, AddsFront, AddsWhole, Outgoing, outgoing}
pub use Rattle.hlr.specs.Records.{bounds_of, command_named, command_of, field, word_named}
pub use Rattle.hlr.specs.Reports.{is_counted, is_standing, rows_line, scan_text, standing_line, views_text}
pub use Rattle.hlr.specs.Run.{AnsweredRecords, AsksEvent, HasNextEvent, IsStop, Ran, RanFront, RanUntil, StoppedFront, WritesWhole}
pub use Rattle.hlr.specs.Sink.{AppendsFront, Begins}
pub use Rattle.hlr.specs.Source.{AreRead, GaveEvent, ReadsOne, Seen, StopsBehind, Unread}
pub use Rattle.hlr.specs.Text.{CommandText, RecordText, RecutText}
pub use Rattle.hlr.specs.Written.{HasRoom, Written}
pub use Rattle.hlr.specs.declared.fault.Fault.{Fault}
pub use Rattle.hlr.specs.declared.records.Report.{Report}
pub use Rattle.hlr.specs.declared.records.TheConstants.{MOST_BOUNDS}
pub use Rattle.hlr.specs.declared.records.Word.{Word}
pub use Rattle.hlr.specs.declared.run.TheConstants.{RECORDS}
pub use Rattle.hlr.specs.declared.sink.Stalled.{Stalled}
