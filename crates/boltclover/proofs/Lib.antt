mod TurnSteps
