mod Completing
mod WorkedEvents
