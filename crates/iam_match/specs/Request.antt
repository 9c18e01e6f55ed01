-- A request as the code holds it. LOGIC 1.1.
use Rattle.iam_match.specs.declared.request.Access.{Access}
use Rattle.iam_match.specs.declared.request.Request.{Request}
use Rattle.iam_match.specs.Statement.{AccessValue, RequestValue}

-- without where it lies in memory
abbrev pub request_of : Request → RequestValue
request_of q = record {
  requester = q.requester.now;
  action = q.action.now;
  resource = q.resource.now;
  context = q.context.now;
}

abbrev pub access_of : Access → AccessValue
access_of access = record {
  requester = access.requester.now;
  resource = access.resource.now;
  context = access.context.now;
}
