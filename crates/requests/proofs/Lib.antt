pub mod MeetingExamples
pub mod MeetingSteps
pub mod MeetingLaws
pub mod MeetingFound
pub mod MeetingNode
pub mod ConflictsSteps
pub mod VirtualConflictsSteps
