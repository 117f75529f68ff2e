-- Tasks, each of which is a job in few bytes, and routes of events by tasks.
use Rattle.holding.specs.declared.job.Job.{Job}
use Rattle.holding.specs.declared.job.Job.TheVariants as job
use Rattle.tatp_actions.specs.declared.action.Action.TheVariants as action
use Rattle.hlr_core.specs.declared.event.Reply.TheVariants as reply
use Rattle.hlr_core.specs.declared.route.Route.{Route}
use Rattle.hlr_core.specs.declared.route.Route.TheVariants as route
use Rattle.hlr_core.specs.declared.route.TaskRoute.{TaskRoute}
use Rattle.hlr_core.specs.declared.route.TaskRoute.TheVariants as by_task
use Rattle.hlr_core.specs.declared.task.Task.{Task}
use Rattle.hlr_core.specs.declared.task.Task.TheVariants.{SubscriberData, NewDestination, AccessData, UpdateSubscriber, UpdateLocation, InsertForwarding, DeleteForwarding, AddAccess, AddFacility, SetActive, Post}

-- the job that a task is
abbrev pub job_of : Task → Job
job_of (SubscriberData s_id) = job.Act (action.SubscriberData s_id)
job_of (NewDestination s_id sf_type start_time end_time) = job.Act (action.NewDestination s_id sf_type start_time end_time)
job_of (AccessData s_id ai_type) = job.Act (action.AccessData s_id ai_type)
job_of (UpdateSubscriber edit) = job.Act (action.UpdateSubscriber edit.s_id edit.sf_type edit.bit_1 edit.data_a)
job_of (UpdateLocation edit) = job.Act (action.UpdateLocation edit.s_id edit.vlr_location.value)
job_of (InsertForwarding edit) = job.Act (action.InsertForwarding edit.row)
job_of (DeleteForwarding edit) = job.Act (action.DeleteForwarding edit.s_id edit.sf_type edit.start_time)
job_of (AddAccess edit) = job.Act (action.AddAccess edit.row)
job_of (AddFacility edit) = job.Act (action.AddFacility edit.row)
job_of (SetActive edit) = job.Act (action.SetActive edit.s_id edit.sf_type edit.is_active)
job_of (Post limit) = job.Post limit

-- the route that a route by a task is
abbrev pub route_of : TaskRoute → Route
route_of (by_task.Refused why) = route.Now (reply.Refused why)
route_of (by_task.To p task) = route.To p (job_of task)
route_of by_task.Here = route.Here
