mod Calendar
